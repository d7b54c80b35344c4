-- The segments up to the place before `i` are summed.
use Rattle.road_pieces.proofs.CourseLemmas.{IsSummed}
use Rattle.road_pieces.proofs.courses.length_of.Given as goal

abbrev pub invariant-loop-i : goal.invariant-loop-i
invariant-loop-i l = IsSummed l.points l.cm l.i
