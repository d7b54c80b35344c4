use Rattle.std.proofs.Common.{map}
use Rattle.wire_read.specs.Fields.{seen}
use Rattle.wire_read.proofs.FieldsSoFar.{FieldsSoFar}
use Rattle.wire_tests.proofs.fields.fields_of.Given as goal

abbrev pub invariant-loop-field : goal.invariant-loop-field
invariant-loop-field l = FieldsSoFar l.bytes l.base (map seen l.fields.items) l.field-iterator
