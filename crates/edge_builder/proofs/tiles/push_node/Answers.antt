use Rattle.std.proofs.Common.{◌∙◌, ◌++◌, ◌∷◌, [], ap, get_or, arith}
use Rattle.std.proofs.lemmas.List.{get_or_default}
use Rattle.work_tile.specs.WorkRows.{work_node_with}
use Rattle.edge_builder.specs.BaseTiles.{base_node}
use Rattle.edge_builder.proofs.JunctionLemmas.{no_junction}
use Rattle.edge_builder.proofs.NodeLemmas.{no_row, edges_so_far, edges_more, edges_whole, place_inside}
use Rattle.edge_builder.proofs.tiles.push_node.Goals as goal

pub edge_at-requires-clause-inside : goal.edge_at-requires-clause-inside
edge_at-requires-clause-inside c =
    let plan = c.args.plan.now in
    place_inside plan.junctions.now plan.pieces.now plan.tiles.now plan.starts.now c.args.places.now c.args.junction c.loop-local.local 0 c.requires.planned c.requires.places c.loop-local-test.true

pub loop-local-preserved : goal.loop-local-preserved
loop-local-preserved c =
    let js = c.args.plan.now.junctions.now in
    let ps = c.args.plan.now.pieces.now in
    let so_far = edges_so_far js ps c.args.places.now c.loop-local.local in
    let node = get_or js c.args.junction no_junction in
    let more = ap (λ e. so_far ++ e ∷ []) (c.edge_at.ensures no_row) ∙ edges_more js ps c.args.places.now c.loop-local.local 0 c.loop-local-test.true in
    let was = c.loop-local.invariant in
    c.in_ok-push_edge.ensures.ok c.args.rows.now.nodes (work_node_with node so_far) (λ i. (was i).nodes)
    ∙ (λ i. record { level = (was i).level; tile = (was i).tile; nodes = c.args.rows.now.nodes ++ work_node_with node (more i) ∷ [] })

pub returns : goal.returns
returns c d =
    let plan = c.args.plan.now in
    let whole = edges_whole plan.junctions.now plan.pieces.now plan.tiles.now plan.starts.now c.args.places.now c.args.junction c.loop-local.local no_junction c.requires.planned c.requires.there c.requires.places (omega arith)
    ∙ ap (base_node plan.junctions.now plan.pieces.now) (get_or_default plan.junctions.now c.args.junction no_junction d c.requires.there) in
    c.loop-local.invariant ∙ (λ i. record { level = c.args.rows.now.level; tile = c.args.rows.now.tile; nodes = c.args.rows.now.nodes ++ whole i ∷ [] })
