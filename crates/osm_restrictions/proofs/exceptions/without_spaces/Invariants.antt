-- The loop has passed spaces alone, from the end.
use Rattle.std.proofs.Common.{◌≡◌, length}
use Rattle.std.specs.Prelude.{reverse}
use Rattle.osm_restrictions.specs.Exceptions.{past_spaces}
use Rattle.osm_restrictions.proofs.exceptions.without_spaces.Given as goal

abbrev pub invariant-loop-last : goal.invariant-loop-last
invariant-loop-last l = past_spaces (reverse l.rest) ≡ past_spaces (reverse (past_spaces l.text))

abbrev pub decreases-loop-last : goal.decreases-loop-last
decreases-loop-last l = length l.rest
