use Rattle.std.proofs.Common.{◌+◌, ◌-◌, ◌/◌, arith}
use Rattle.enhancer.proofs.SortedSpots.{below_more, above_more}
use Rattle.enhancer.proofs.cells.first_in.Goals as goal

pub loop-low-preserved-then-spots-middle : goal.loop-low-preserved-then-spots-middle
loop-low-preserved-then-spots-middle c = record {
  within = omega (arith, c.loop-low-test.true);
  inside = c.loop-low.invariant.inside;
  below = below_more c.args.spots.now c.args.cell (c.loop-low.low + (c.loop-low.high - c.loop-low.low) / 2) _ c.requires (omega (arith, c.loop-low-test.true, c.loop-low.invariant.inside)) c.if-spots-middle.true;
  above = c.loop-low.invariant.above;
}

pub loop-low-preserved : goal.loop-low-preserved
loop-low-preserved c = record {
  within = omega arith;
  inside = omega (arith, c.loop-low-test.true, c.loop-low.invariant.inside);
  below = c.loop-low.invariant.below;
  above = above_more c.args.spots.now c.args.cell (c.loop-low.low + (c.loop-low.high - c.loop-low.low) / 2) _ c.requires (omega (arith, c.loop-low-test.true, c.loop-low.invariant.inside)) c.if-spots-middle.false;
}
