use Rattle.std.proofs.Common.{◌≡◌, ◌==◌, take, ap, arith}
use Rattle.std.specs.Prelude.{sum_by, filter}
use Rattle.enhancer.specs.Density.{spot_cm}
use Rattle.enhancer.proofs.SortedSpots.{none_before, enough, past_cell}
use Rattle.enhancer.proofs.cells.add_cell.Goals as goal

pub loop-i-init : goal.loop-i-init
loop-i-init c =
    let none : sum_by (spot_cm c.args.at) (filter (λ s. s.cell == c.args.cell) (take c.first_in-i.result c.args.spots.now)) ≡ 0 =
    ap (sum_by (spot_cm c.args.at)) (none_before c.args.cell c.first_in-i.result c.args.spots.now c.first_in-i.ensures.below) in
    record {
      sum = omega (arith, none, c.requires.cut);
      above = c.first_in-i.ensures.above;
    }

pub returns-then-sum-eq-ENOUGH_CM : goal.returns-then-sum-eq-ENOUGH_CM
returns-then-sum-eq-ENOUGH_CM c =
    enough c.args.spots.now c.args.cell c.loop-i.i (spot_cm c.args.at) c.args.total c.loop-i.sum c.loop-i.invariant.sum c.if-sum-eq-ENOUGH_CM.true

pub returns-then-spot-cell : goal.returns-then-spot-cell
returns-then-spot-cell c =
    past_cell c.args.spots.now c.args.cell c.loop-i.i (spot_cm c.args.at) _ c.args.total c.loop-i.sum c.requires.order (omega (arith, c.loop-i-test.true)) c.if-spot-cell.true c.loop-i.invariant.above c.loop-i.invariant.sum
