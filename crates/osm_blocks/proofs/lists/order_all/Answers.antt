use Rattle.std.proofs.Common.{rules, FitsSigned, w64}
use Rattle.std.proofs.lemmas.Int.{to_z-of_z}
use Rattle.osm_blocks.specs.Extracts.{node_id, way_id}
use Rattle.osm_blocks.specs.Order.{InOrder}
use Rattle.osm_blocks.proofs.Twice.{in_order_unlike}
use Rattle.osm_blocks.proofs.lists.order_all.Goals as goal

pub returns-in-Some-order_ways : goal.returns-in-Some-order_ways
returns-in-Some-order_ways c =
    let fits : FitsSigned w64 c.in-Some-order_ways.id = search rules in
    let first : InOrder node_id c.args.lists.now.nodes c.order_nodes.new.nodes = rw c.in_default.is at c.in_ok-id.ensures in
    let nodes = in_order_unlike node_id c.args.lists.now.nodes c.order_nodes.new.nodes first in
    (nodes, rw (to_z-of_z w64 c.in-Some-order_ways.id fits) c.in-Some-order_ways.ensures)

pub returns-in-Some-order_relations : goal.returns-in-Some-order_relations
returns-in-Some-order_relations c =
    let fits : FitsSigned w64 c.in-Some-order_relations.id = search rules in
    let first : InOrder node_id c.args.lists.now.nodes c.order_nodes.new.nodes = rw c.in_default.is at c.in_ok-id.ensures in
    let nodes = in_order_unlike node_id c.args.lists.now.nodes c.order_nodes.new.nodes first in
    let ways = in_order_unlike way_id c.args.lists.now.ways c.order_ways.new.ways c.in_default-order_ways.ensures in
    (nodes, ways, rw (to_z-of_z w64 c.in-Some-order_relations.id fits) c.in-Some-order_relations.ensures)
