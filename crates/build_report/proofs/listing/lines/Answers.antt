use Rattle.std.proofs.Common.{refl, arith}
use Rattle.build_report.proofs.ListLines.{lines_more, lines_all}
use Rattle.build_report.proofs.listing.lines.Goals as goal

pub loop-i-preserved : goal.loop-i-preserved
loop-i-preserved c =
    lines_more c.args.ids.now c.args.sizes.now c.loop-i.i _ _ _ _ _ c.loop-i-test.true c.requires.sized c.index-ids-i.is refl c.in_ok-push_line.ensures c.loop-i.invariant

pub returns : goal.returns
returns c = lines_all c.args.ids.now c.args.sizes.now c.loop-i.i _ _ (omega (arith, c.loop-i-test.false)) c.loop-i.invariant
