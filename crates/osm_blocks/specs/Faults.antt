-- The faults of an extract: which of them come from the layers below, and which are of the bytes.
use Rattle.std.specs.Prelude.{Bool, true, false}
use Rattle.pbf_blobs.specs.declared.fault.PbfFault.{PbfFault}
use Rattle.pbf_blobs.specs.declared.fault.PbfFault.TheVariants as pbf
use Rattle.osm_messages.specs.declared.fault.MessageFault.{MessageFault}
use Rattle.osm_messages.specs.declared.fault.MessageFault.TheVariants as messages
use Rattle.osm_objects.specs.declared.fault.ObjectFault.{ObjectFault}
use Rattle.osm_objects.specs.declared.fault.ObjectFault.TheVariants as objects
use Rattle.osm_blocks.specs.declared.fault.ExtractFault.{ExtractFault}
use Rattle.osm_blocks.specs.declared.fault.ExtractFault.TheVariants as faults

-- a fault of the framing
abbrev pub framed_as : PbfFault → ExtractFault
framed_as pbf.Read = faults.Read
framed_as (pbf.Truncated at) = faults.Truncated at
framed_as (pbf.HeaderTooLong at len) = faults.HeaderTooLong at len
framed_as (pbf.BlobTooLong at len) = faults.BlobTooLong at len
framed_as (pbf.Compressed at field) = faults.Compressed at field
framed_as (pbf.Wire fault) = faults.Wire fault
framed_as (pbf.NoPayload at) = faults.NoPayload at
framed_as (pbf.TooLarge bytes) = faults.TooLarge bytes
framed_as pbf.OutOfMemory = faults.OutOfMemory
framed_as (pbf.MissingField at number) = faults.MissingField at number
framed_as (pbf.BadType at) = faults.BadType at

-- a fault of the messages of a block
abbrev pub spelled_as : MessageFault → ExtractFault
spelled_as (messages.Wire fault) = faults.Wire fault
spelled_as (messages.Repeated at number) = faults.Repeated at number
spelled_as messages.OutOfMemory = faults.OutOfMemory

-- a fault of the objects of a block
abbrev pub meant_as : ObjectFault → ExtractFault
meant_as (objects.MissingField at number) = faults.MissingField at number
meant_as (objects.Uneven at) = faults.Uneven at
meant_as (objects.BadNumber at) = faults.BadNumber at
meant_as (objects.BadString at index) = faults.BadString at index
meant_as (objects.BadCoordinate id) = faults.BadCoordinate id
meant_as objects.OutOfMemory = faults.OutOfMemory

-- a fault of reading
abbrev pub is_read : ExtractFault → Bool
is_read faults.Read = true
is_read _ = false

-- A fault of the bytes: not one of reading, and not want of memory.
abbrev pub is_of_bytes : ExtractFault → Bool
is_of_bytes faults.Read = false
is_of_bytes faults.OutOfMemory = false
is_of_bytes _ = true
