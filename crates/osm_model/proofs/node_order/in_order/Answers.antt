use Rattle.std.proofs.Common.{arith}
use Rattle.osm_model.proofs.NodeOrder.{one_added, one_longer}
use Rattle.osm_model.proofs.node_order.in_order.Goals as goal

pub loop-one-preserved : goal.loop-one-preserved
loop-one-preserved c = record {
  made = one_added _ c.args.placed.now c.loop-one.one-index _ _ _ _ _ (omega arith) c.loop-one.invariant.made c.in_ok-add_placed.ensures.spots c.in_ok-add_placed.ensures.spans (omega (arith, c.loop-one.invariant.many, c.requires.few));
  many = one_longer _ _ _ _ c.in_ok-add_placed.ensures.spots c.loop-one.invariant.many;
}
