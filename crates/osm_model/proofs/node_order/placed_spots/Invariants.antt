-- The spots so far have their places.
use Rattle.std.proofs.Common.{◌≡◌, take}
use Rattle.osm_model.specs.NodeOrder.{placed_from}
use Rattle.osm_model.proofs.node_order.placed_spots.Given as goal

abbrev pub invariant-loop-place : goal.invariant-loop-place
invariant-loop-place l = l.placed.items ≡ placed_from 0 (take l.place l.spots)
