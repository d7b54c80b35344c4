-- The places so far were read.
use Rattle.std.proofs.Common.{length, ◌-◌}
use Rattle.edge_builder.proofs.GroupLemmas.{IsRead}
use Rattle.edge_builder.proofs.groups.Groups.find.Given as goal

abbrev pub invariant-loop-at : goal.invariant-loop-at
invariant-loop-at l = IsRead l.self-inside.numbers.items l.self-inside.next.items l.number l.at l.places.items

abbrev pub decreases-loop-at : goal.decreases-loop-at
decreases-loop-at l = length l.self-inside.numbers.items - length l.places.items
