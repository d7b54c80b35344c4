-- What is said of bytes that aren't in the wire format: the name of the fault, and what it names.
use Rattle.std.specs.Prelude.{ℕ, List, ◌++◌, codes}
use Rattle.std.specs.Fmt.{decimal}
use Rattle.wire_read.specs.declared.fault.WireFault.{WireFault}
use Rattle.wire_read.specs.declared.fault.WireFault.TheVariants as faults

abbrev pub wire_fault_line : WireFault → List ℕ
wire_fault_line (faults.Short at) = codes "Short at=" ++ decimal at
wire_fault_line (faults.LongVarint at) = codes "LongVarint at=" ++ decimal at
wire_fault_line (faults.BadWire at kind) = codes "BadWire at=" ++ (decimal at ++ (codes " kind=" ++ decimal kind))
wire_fault_line (faults.BadNumber at) = codes "BadNumber at=" ++ decimal at
