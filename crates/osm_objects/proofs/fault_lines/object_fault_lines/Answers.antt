use Rattle.std.proofs.Common.{refl}
use Rattle.std.specs.Fmt.{digits}
use Rattle.osm_objects.proofs.fault_lines.object_fault_lines.Goals as goal

pub returns-clause-missing_field : goal.returns-clause-missing_field
unfolding digits
returns-clause-missing_field c = refl

pub returns-clause-uneven : goal.returns-clause-uneven
unfolding digits
returns-clause-uneven c = refl

pub returns-clause-bad_number : goal.returns-clause-bad_number
unfolding digits
returns-clause-bad_number c = refl

pub returns-clause-bad_string : goal.returns-clause-bad_string
unfolding digits
returns-clause-bad_string c = refl

pub returns-clause-bad_coordinate : goal.returns-clause-bad_coordinate
unfolding digits
returns-clause-bad_coordinate c = refl

pub returns-clause-out_of_memory : goal.returns-clause-out_of_memory
unfolding digits
returns-clause-out_of_memory c = refl
