use Rattle.std.proofs.Common.{length}
use Rattle.osm_objects.proofs.KeysValues.{CountSoFar}
use Rattle.osm_objects.proofs.groups.check_groups.Given as goal

abbrev pub invariant-loop-key : goal.invariant-loop-key
invariant-loop-key l = CountSoFar l.keys_vals l.rest l.groups

abbrev pub decreases-loop-key : goal.decreases-loop-key
decreases-loop-key l = length l.rest
