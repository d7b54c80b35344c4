use Rattle.std.proofs.Common.{slice_set, subst, sym}
use Rattle.tile_machine.specs.Good.{IsGood}
use Rattle.tile_machine.specs.State.{ranging}
use Rattle.tile_machine.specs.Inner.{state_of}
use Rattle.tile_machine.proofs.Begins.{good_lists}
use Rattle.tile_machine.proofs.machine.Machine.new.Goals as goal

pub invariant_of-result : goal.invariant_of-result
invariant_of-result c =
    let good = good_lists c.args.tiles c.args.workers c.in_ok-cells.cells.items c.in_ok-all.all.items c.requires.some c.in_ok-cells.ensures c.in_ok-all.ensures in
    subst (λ n. IsGood n (state_of c.in_ok-cells.cells.items (slice_set c.in_ok-all.all.items 0 (ranging 0 c.args.workers)))) (sym good.all) good

pub returns-clause-good : goal.returns-clause-good
returns-clause-good c =
    good_lists c.args.tiles c.args.workers c.in_ok-cells.cells.items c.in_ok-all.all.items c.requires.some c.in_ok-cells.ensures c.in_ok-all.ensures
