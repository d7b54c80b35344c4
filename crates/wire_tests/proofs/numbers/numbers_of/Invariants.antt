use Rattle.wire_read.proofs.ReadSoFar.{ReadSoFar}
use Rattle.wire_tests.proofs.numbers.numbers_of.Given as goal

abbrev pub invariant-loop-number : goal.invariant-loop-number
invariant-loop-number l = ReadSoFar l.bytes l.base l.numbers.items l.number-iterator
