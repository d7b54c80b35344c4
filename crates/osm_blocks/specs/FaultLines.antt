-- What is said of an extract that is refused: the name of the fault, and what it names. A fault that a layer below
-- finds keeps that layer's line.
use Rattle.std.specs.Prelude.{ℕ, List, ◌++◌, codes}
use Rattle.std.specs.Fmt.{decimal, signed_decimal}
use Rattle.pbf_blobs.specs.declared.fault.PbfFault.TheVariants as pbf
use Rattle.pbf_blobs.specs.FaultLines.{pbf_fault_line}
use Rattle.osm_messages.specs.declared.fault.MessageFault.TheVariants as messages
use Rattle.osm_messages.specs.FaultLines.{message_fault_line}
use Rattle.osm_objects.specs.declared.fault.ObjectFault.TheVariants as objects
use Rattle.osm_objects.specs.FaultLines.{object_fault_line}
use Rattle.osm_model.specs.declared.relations.MemberKind.{MemberKind}
use Rattle.osm_model.specs.declared.relations.MemberKind.TheVariants as kinds
use Rattle.osm_blocks.specs.declared.fault.Counted.{Counted}
use Rattle.osm_blocks.specs.declared.fault.Counted.TheVariants as counted
use Rattle.osm_blocks.specs.declared.fault.ExtractFault.{ExtractFault}
use Rattle.osm_blocks.specs.declared.fault.ExtractFault.TheVariants as faults

-- an object of a kind
abbrev pub kind_name : MemberKind → List ℕ
kind_name kinds.Node = codes "node"
kind_name kinds.Way = codes "way"
kind_name kinds.Relation = codes "relation"

-- what is counted over a whole extract
abbrev pub counted_name : Counted → List ℕ
counted_name counted.Nodes = codes "nodes"
counted_name counted.Ways = codes "ways"
counted_name counted.Relations = codes "relations"
counted_name counted.Refs = codes "refs"
counted_name counted.Members = codes "members"
counted_name counted.Tags = codes "tags"

abbrev pub extract_fault_line : ExtractFault → List ℕ
extract_fault_line faults.Read = pbf_fault_line pbf.Read
extract_fault_line (faults.Truncated at) = pbf_fault_line (pbf.Truncated at)
extract_fault_line (faults.HeaderTooLong at len) = pbf_fault_line (pbf.HeaderTooLong at len)
extract_fault_line (faults.BlobTooLong at len) = pbf_fault_line (pbf.BlobTooLong at len)
extract_fault_line (faults.Compressed at field) = pbf_fault_line (pbf.Compressed at field)
extract_fault_line (faults.Wire fault) = pbf_fault_line (pbf.Wire fault)
extract_fault_line (faults.NoPayload at) = pbf_fault_line (pbf.NoPayload at)
extract_fault_line (faults.TooLarge bytes) = pbf_fault_line (pbf.TooLarge bytes)
extract_fault_line faults.OutOfMemory = pbf_fault_line pbf.OutOfMemory
extract_fault_line (faults.MissingField at number) = pbf_fault_line (pbf.MissingField at number)
extract_fault_line (faults.BadType at) = pbf_fault_line (pbf.BadType at)
extract_fault_line (faults.NoHeader at) = codes "NoHeader at=" ++ decimal at
extract_fault_line (faults.Feature at text) = codes "Feature at=" ++ (decimal at ++ (codes " text=" ++ text))
extract_fault_line (faults.BadString at index) = object_fault_line (objects.BadString at index)
extract_fault_line (faults.Uneven at) = object_fault_line (objects.Uneven at)
extract_fault_line (faults.DuplicateId kind id) = codes "DuplicateId kind=" ++ (kind_name kind ++ (codes " id=" ++ signed_decimal id))
extract_fault_line (faults.BadCoordinate id) = object_fault_line (objects.BadCoordinate id)
extract_fault_line (faults.TooMany what count) = codes "TooMany what=" ++ (counted_name what ++ (codes " count=" ++ decimal count))
extract_fault_line (faults.Repeated at number) = message_fault_line (messages.Repeated at number)
extract_fault_line (faults.BadNumber at) = object_fault_line (objects.BadNumber at)
