use Rattle.std.proofs.Common.{◌∙◌, arith}
use Rattle.tile_numbers.proofs.Fits.{node_low, opposing_low, opposing_local_low, no_opposing, no_local, opposing_is, local_is}
use Rattle.tile_numbers.proofs.ends.end_in.Goals as goal

pub returns-then-place-nodes_len-clause-opposing : goal.returns-then-place-nodes_len-clause-opposing
returns-then-place-nodes_len-clause-opposing c =
    no_opposing c.args.rows.now c.args.edge.now c.node_place-place.result c.nodes_len.result c.node_place-place.ensures.is c.if-place-nodes_len.true c.nodes_len.ensures

pub returns-then-place-nodes_len-clause-local : goal.returns-then-place-nodes_len-clause-local
returns-then-place-nodes_len-clause-local c =
    no_local c.args.rows.now c.args.edge.now c.node_place-place.result c.nodes_len.result c.node_place-place.ensures.is c.if-place-nodes_len.true c.nodes_len.ensures

pub returns-clause-opposing : goal.returns-clause-opposing
returns-clause-opposing c =
    c.opposing_at-opposing.ensures.index
    ∙ opposing_is c.args.rows.now c.args.edge.now c.node_place-place.result c.node.result c.node_place-place.ensures.is (omega arith) c.node.ensures

pub returns-clause-local : goal.returns-clause-local
returns-clause-local c =
    c.opposing_at-opposing.ensures.local
    ∙ local_is c.args.rows.now c.args.edge.now c.node_place-place.result c.node.result c.node_place-place.ensures.is (omega arith) c.node.ensures

pub returns-then-place-nodes_len-clause-small_node : goal.returns-then-place-nodes_len-clause-small_node
returns-then-place-nodes_len-clause-small_node c = omega (arith, node_low c.args.rows.now c.args.edge.now.end c.requires, c.node_place-place.ensures.is)

pub returns-clause-small_node : goal.returns-clause-small_node
returns-clause-small_node c = omega (arith, node_low c.args.rows.now c.args.edge.now.end c.requires, c.node_place-place.ensures.is)

pub returns-clause-small_opposing : goal.returns-clause-small_opposing
returns-clause-small_opposing c =
    let is = c.opposing_at-opposing.ensures.index
    ∙ opposing_is c.args.rows.now c.args.edge.now c.node_place-place.result c.node.result c.node_place-place.ensures.is (omega arith) c.node.ensures in
    omega (arith, is, opposing_low c.args.rows.now c.args.edge.now c.requires)

pub returns-clause-small_local : goal.returns-clause-small_local
returns-clause-small_local c =
    let is = c.opposing_at-opposing.ensures.local
    ∙ local_is c.args.rows.now c.args.edge.now c.node_place-place.result c.node.result c.node_place-place.ensures.is (omega arith) c.node.ensures in
    omega (arith, is, opposing_local_low c.args.rows.now c.args.edge.now c.requires)
