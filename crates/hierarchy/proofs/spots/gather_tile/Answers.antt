use Rattle.std.proofs.Common.{◌≡◌, ◌∙◌, length, ap, arith}
use Rattle.hierarchy.specs.Spots.{source_at}
use Rattle.hierarchy.proofs.SpotLemmas.{adds_none, node_added, nodes_added}
use Rattle.hierarchy.proofs.spots.gather_tile.Goals as goal

pub loop-node-init : goal.loop-node-init
loop-node-init c = adds_none c.args.level c.args.tiles.now c.args.spots.now.items

pub loop-node-preserved : goal.loop-node-preserved
loop-node-preserved c =
    let count : c.nodes_len-count.result ≡ length (source_at c.args.tiles.now c.args.source).nodes = c.nodes_len-count.ensures ∙ ap (λ r. length r.nodes) c.rows_at.ensures in
    node_added c.args.level c.args.tiles.now c.args.source c.loop-node.node c.args.spots.now.items c.loop-node.spots.items c.gather_node.new.spots.items (omega (arith, count)) c.loop-node.invariant c.in_ok-gather_node.ensures

pub returns : goal.returns
returns c =
    let count : c.nodes_len-count.result ≡ length (source_at c.args.tiles.now c.args.source).nodes = c.nodes_len-count.ensures ∙ ap (λ r. length r.nodes) c.rows_at.ensures in
    nodes_added c.args.level c.args.tiles.now c.args.source c.loop-node.node c.args.spots.now.items c.loop-node.spots.items (omega (arith, count)) c.loop-node.invariant
