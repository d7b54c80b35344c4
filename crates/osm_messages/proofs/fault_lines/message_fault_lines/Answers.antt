use Rattle.std.proofs.Common.{refl}
use Rattle.std.specs.Fmt.{digits}
use Rattle.osm_messages.proofs.fault_lines.message_fault_lines.Goals as goal

pub returns-clause-short : goal.returns-clause-short
unfolding digits
returns-clause-short c = refl

pub returns-clause-bad_wire : goal.returns-clause-bad_wire
unfolding digits
returns-clause-bad_wire c = refl

pub returns-clause-repeated : goal.returns-clause-repeated
unfolding digits
returns-clause-repeated c = refl

pub returns-clause-out_of_memory : goal.returns-clause-out_of_memory
unfolding digits
returns-clause-out_of_memory c = refl
