-- The loop has passed spaces alone.
use Rattle.std.proofs.Common.{◌≡◌, length}
use Rattle.osm_restrictions.specs.Exceptions.{past_spaces}
use Rattle.osm_restrictions.proofs.exceptions.past_spaces.Given as goal

abbrev pub invariant-loop-first : goal.invariant-loop-first
invariant-loop-first l = past_spaces l.rest ≡ past_spaces l.text

abbrev pub decreases-loop-first : goal.decreases-loop-first
decreases-loop-first l = length l.rest
