-- The places so far were counted.
use Rattle.std.proofs.Common.{length, ◌-◌}
use Rattle.edge_builder.proofs.GroupLemmas.{IsCounted}
use Rattle.edge_builder.proofs.groups.Groups.count.Given as goal

abbrev pub invariant-loop-at : goal.invariant-loop-at
invariant-loop-at l = IsCounted l.self-inside.numbers.items l.self-inside.next.items l.number l.at l.count

abbrev pub decreases-loop-at : goal.decreases-loop-at
decreases-loop-at l = length l.self-inside.numbers.items - l.count
