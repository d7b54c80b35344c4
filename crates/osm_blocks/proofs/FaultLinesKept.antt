-- A fault keeps its line on the way up.
use Rattle.std.proofs.Common.{◌≡◌, refl}
use Rattle.pbf_blobs.specs.declared.fault.PbfFault.{PbfFault}
use Rattle.pbf_blobs.specs.declared.fault.PbfFault.TheVariants as pbf
use Rattle.pbf_blobs.specs.FaultLines.{pbf_fault_line}
use Rattle.osm_messages.specs.declared.fault.MessageFault.{MessageFault}
use Rattle.osm_messages.specs.declared.fault.MessageFault.TheVariants as messages
use Rattle.osm_messages.specs.FaultLines.{message_fault_line}
use Rattle.osm_objects.specs.declared.fault.ObjectFault.{ObjectFault}
use Rattle.osm_objects.specs.declared.fault.ObjectFault.TheVariants as objects
use Rattle.osm_objects.specs.FaultLines.{object_fault_line}
use Rattle.osm_blocks.specs.Faults.{framed_as, spelled_as, meant_as}
use Rattle.osm_blocks.specs.FaultLines.{extract_fault_line}

pub frame_kept : (fault : PbfFault) → extract_fault_line (framed_as fault) ≡ pbf_fault_line fault
frame_kept pbf.Read = refl
frame_kept (pbf.Truncated at) = refl
frame_kept (pbf.HeaderTooLong at len) = refl
frame_kept (pbf.BlobTooLong at len) = refl
frame_kept (pbf.Compressed at field) = refl
frame_kept (pbf.Wire fault) = refl
frame_kept (pbf.NoPayload at) = refl
frame_kept (pbf.TooLarge bytes) = refl
frame_kept pbf.OutOfMemory = refl
frame_kept (pbf.MissingField at number) = refl
frame_kept (pbf.BadType at) = refl

pub message_kept : (fault : MessageFault) → extract_fault_line (spelled_as fault) ≡ message_fault_line fault
message_kept (messages.Wire fault) = refl
message_kept (messages.Repeated at number) = refl
message_kept messages.OutOfMemory = refl

pub object_kept : (fault : ObjectFault) → extract_fault_line (meant_as fault) ≡ object_fault_line fault
object_kept (objects.MissingField at number) = refl
object_kept (objects.Uneven at) = refl
object_kept (objects.BadNumber at) = refl
object_kept (objects.BadString at index) = refl
object_kept (objects.BadCoordinate id) = refl
object_kept objects.OutOfMemory = refl
