-- The places passed are linked.
use Rattle.std.proofs.Common.{length, ◌-◌}
use Rattle.number_index.proofs.LinkLemmas.{AreLinked}
use Rattle.number_index.proofs.links.link.Given as goal

abbrev pub invariant-loop-passed : goal.invariant-loop-passed
invariant-loop-passed l = AreLinked l.numbers l.first l.next (length l.numbers - l.passed) (length l.initial.first)
