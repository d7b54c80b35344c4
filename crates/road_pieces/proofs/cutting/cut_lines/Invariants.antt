-- The pieces so far are those of the lines so far, and have no more points and names than these lines can have.
use Rattle.road_pieces.proofs.CutLemmas.{AreCutSo}
use Rattle.road_pieces.proofs.cutting.cut_lines.Given as goal

abbrev pub invariant-loop-i : goal.invariant-loop-i
invariant-loop-i l = AreCutSo l.extract l.lines.done l.pieces l.i
