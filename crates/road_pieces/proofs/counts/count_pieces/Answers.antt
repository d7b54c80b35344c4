use Rattle.std.proofs.Common.{◌<◌, length, arith}
use Rattle.std.specs.Prelude.{All}
use Rattle.road_pieces.specs.Counts.{pieces_in}
use Rattle.road_pieces.proofs.EachLine.{at_line, sum_more}
use Rattle.road_pieces.proofs.counts.count_pieces.Goals as goal

pub count_line-count-requires : goal.count_line-count-requires
count_line-count-requires c =
    at_line (λ l. All (λ p. p < length c.args.flags.now) l.places) c.args.lines.now.done c.loop-i.i _ (omega arith) c.line.ensures c.requires.inside

pub loop-i-preserved : goal.loop-i-preserved
loop-i-preserved c =
    (omega (arith, c.loop-i.invariant.0, c.count_line-count.ensures.value, sum_more (λ l. pieces_in c.args.flags.now l.places) c.args.lines.now.done c.loop-i.i _ (omega arith) c.line.ensures), omega (arith, c.loop-i.invariant.1, c.count_line-count.ensures.bound, sum_more (λ l. length l.places) c.args.lines.now.done c.loop-i.i _ (omega arith) c.line.ensures))
