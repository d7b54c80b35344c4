use Rattle.std.proofs.Common.{refl, arith}
use Rattle.osm_model.proofs.NodeOrder.{placed_step}
use Rattle.osm_model.proofs.node_order.placed_spots.Goals as goal

pub loop-place-preserved : goal.loop-place-preserved
loop-place-preserved c = placed_step c.args.spots.now c.loop-place.place _ _ _ _ (omega arith) refl c.loop-place.invariant c.in_ok-push.ensures.items
