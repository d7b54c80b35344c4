-- What is said of a file whose blobs aren't read: the name of the fault, and what it names.
use Rattle.std.specs.Prelude.{ℕ, List, ◌++◌, codes}
use Rattle.std.specs.Fmt.{decimal}
use Rattle.wire_read.specs.FaultLines.{wire_fault_line}
use Rattle.pbf_blobs.specs.declared.fault.PbfFault.{PbfFault}
use Rattle.pbf_blobs.specs.declared.fault.PbfFault.TheVariants as faults

abbrev pub pbf_fault_line : PbfFault → List ℕ
pbf_fault_line faults.Read = codes "Read"
pbf_fault_line (faults.Truncated at) = codes "Truncated at=" ++ decimal at
pbf_fault_line (faults.HeaderTooLong at len) = codes "HeaderTooLong at=" ++ (decimal at ++ (codes " len=" ++ decimal len))
pbf_fault_line (faults.BlobTooLong at len) = codes "BlobTooLong at=" ++ (decimal at ++ (codes " len=" ++ decimal len))
pbf_fault_line (faults.Compressed at field) = codes "Compressed at=" ++ (decimal at ++ (codes " field=" ++ decimal field))
pbf_fault_line (faults.Wire fault) = codes "Wire fault=" ++ wire_fault_line fault
pbf_fault_line (faults.NoPayload at) = codes "NoPayload at=" ++ decimal at
pbf_fault_line (faults.TooLarge bytes) = codes "TooLarge bytes=" ++ decimal bytes
pbf_fault_line faults.OutOfMemory = codes "OutOfMemory"
pbf_fault_line (faults.MissingField at number) = codes "MissingField at=" ++ (decimal at ++ (codes " number=" ++ decimal number))
pbf_fault_line (faults.BadType at) = codes "BadType at=" ++ decimal at
