-- What is said of a payload whose messages aren't read: the name of the fault, and what it names.
use Rattle.std.specs.Prelude.{ℕ, List, ◌++◌, codes}
use Rattle.std.specs.Fmt.{decimal}
use Rattle.wire_read.specs.FaultLines.{wire_fault_line}
use Rattle.osm_messages.specs.declared.fault.MessageFault.{MessageFault}
use Rattle.osm_messages.specs.declared.fault.MessageFault.TheVariants as faults

abbrev pub message_fault_line : MessageFault → List ℕ
message_fault_line (faults.Wire fault) = codes "Wire fault=" ++ wire_fault_line fault
message_fault_line (faults.Repeated at number) = codes "Repeated at=" ++ (decimal at ++ (codes " number=" ++ decimal number))
message_fault_line faults.OutOfMemory = codes "OutOfMemory"
