use Rattle.tile_walks.proofs.Doubles.{ended}
use Rattle.tile_walks.proofs.order.least_double.Goals as goal

pub returns : goal.returns
returns c = ended _ _ _ _ c.loop-i.invariant.0 c.loop-i.invariant.1 c.loop-i-test.false c.loop-i.auto.i-end
