-- What is said of a block whose objects have no meaning: the name of the fault, and what it names.
use Rattle.std.specs.Prelude.{ℕ, List, ◌++◌, codes}
use Rattle.std.specs.Fmt.{decimal, signed_decimal}
use Rattle.osm_objects.specs.declared.fault.ObjectFault.{ObjectFault}
use Rattle.osm_objects.specs.declared.fault.ObjectFault.TheVariants as faults

abbrev pub object_fault_line : ObjectFault → List ℕ
object_fault_line (faults.MissingField at number) = codes "MissingField at=" ++ (decimal at ++ (codes " number=" ++ decimal number))
object_fault_line (faults.Uneven at) = codes "Uneven at=" ++ decimal at
object_fault_line (faults.BadNumber at) = codes "BadNumber at=" ++ decimal at
object_fault_line (faults.BadString at index) = codes "BadString at=" ++ (decimal at ++ (codes " index=" ++ decimal index))
object_fault_line (faults.BadCoordinate id) = codes "BadCoordinate id=" ++ signed_decimal id
object_fault_line faults.OutOfMemory = codes "OutOfMemory"
