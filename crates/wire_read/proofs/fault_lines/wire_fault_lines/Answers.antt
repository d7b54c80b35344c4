use Rattle.std.proofs.Common.{refl}
use Rattle.std.specs.Fmt.{digits}
use Rattle.wire_read.proofs.fault_lines.wire_fault_lines.Goals as goal

pub returns-clause-short : goal.returns-clause-short
unfolding digits
returns-clause-short c = refl

pub returns-clause-long_varint : goal.returns-clause-long_varint
unfolding digits
returns-clause-long_varint c = refl

pub returns-clause-bad_wire : goal.returns-clause-bad_wire
unfolding digits
returns-clause-bad_wire c = refl

pub returns-clause-bad_number : goal.returns-clause-bad_number
unfolding digits
returns-clause-bad_number c = refl
