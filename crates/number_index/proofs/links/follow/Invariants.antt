-- The places so far were added.
use Rattle.std.proofs.Common.{length, ◌+◌, ◌-◌}
use Rattle.number_index.proofs.LinkLemmas.{IsAppended}
use Rattle.number_index.proofs.links.follow.Given as goal

abbrev pub invariant-loop-at : goal.invariant-loop-at
invariant-loop-at l = IsAppended l.numbers l.next l.number l.at l.fn.places.items l.places.items

abbrev pub decreases-loop-at : goal.decreases-loop-at
decreases-loop-at l = length l.fn.places.items + length l.numbers - length l.places.items
