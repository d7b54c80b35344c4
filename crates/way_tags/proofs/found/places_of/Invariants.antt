-- Where the first tag of each known key stands, of the tags that the loop has passed.
use Rattle.std.proofs.Common.{◌≡◌, ◌≤◌, length}
use Rattle.way_tags.specs.KnownKeys.{ArePlaces}
use Rattle.way_tags.proofs.found.places_of.Given as goal

abbrev pub invariant-loop-i : goal.invariant-loop-i
invariant-loop-i l = record { within : l.i ≤ length l.tags; long : length l.places ≡ 20; found : ArePlaces l.tags l.i l.places }

abbrev pub decreases-loop-i : goal.decreases-loop-i
decreases-loop-i l = l.i
