-- The placed spots so far are in the new list.
use Rattle.std.proofs.Common.{◌≡◌, take, length}
use Rattle.osm_model.specs.NodeOrder.{IsInOrder}
use Rattle.osm_model.proofs.node_order.in_order.Given as goal

abbrev pub invariant-loop-one : goal.invariant-loop-one
invariant-loop-one l = record {
  made : IsInOrder l.old (take l.one-index l.placed) l.spots.items l.spans.items;
  many : length l.spots.items ≡ l.one-index;
}
