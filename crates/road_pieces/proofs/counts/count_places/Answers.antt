use Rattle.std.proofs.Common.{arith, length}
use Rattle.road_pieces.proofs.EachLine.{sum_more}
use Rattle.road_pieces.proofs.counts.count_places.Goals as goal

pub loop-i-preserved : goal.loop-i-preserved
loop-i-preserved c =
    omega (arith, c.loop-i.invariant, sum_more (λ l. length l.places) c.args.lines.now.done c.loop-i.i _ (omega arith) c.line.ensures)
