use Rattle.std.proofs.Common.{◌≡◌}
use Rattle.osm_objects.specs.Sums.{sums_of}
use Rattle.osm_objects.proofs.SumsSoFar.{sums_left}
use Rattle.osm_objects.proofs.sums.sum_up.Given as goal

abbrev pub invariant-loop-i : goal.invariant-loop-i
invariant-loop-i l = sums_of l.at l.differences ≡ sums_left l.at l.sums.items l.last l.differences l.i
