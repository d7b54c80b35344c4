use Rattle.std.proofs.Common.{◌∙◌, ◌/◌, ap, true, false, arith}
use Rattle.edge_builder.specs.BaseTiles.{edge_row}
use Rattle.edge_builder.proofs.EdgeLemmas.{planned_lengths, forward_end, backward_end, forward_inside, backward_inside, forward_made, backward_made}
use Rattle.edge_builder.proofs.edges.edge_at.Goals as goal

pub at-end-requires : goal.at-end-requires
at-end-requires c =
    let lengths = planned_lengths _ _ _ _ c.requires.planned in
    omega (arith, lengths.1, c.requires.inside, c.if-place-eq0.true)

pub at-requires : goal.at-requires
at-requires c =
    let plan = c.args.plan.now in
    forward_inside plan.junctions.now plan.pieces.now plan.tiles.now plan.starts.now (c.args.place / 2) c.at-end.result c.at-piece.result c.requires.planned (omega (arith, c.requires.inside))
    (forward_end plan.junctions.now plan.pieces.now plan.tiles.now plan.starts.now c.args.place c.at-end.result c.at-end.result c.at-piece.result c.requires.planned c.requires.inside c.if-place-eq0.true c.at-end.ensures)

pub at-end-requires-else-place-eq0 : goal.at-end-requires-else-place-eq0
at-end-requires-else-place-eq0 c =
    let lengths = planned_lengths _ _ _ _ c.requires.planned in
    omega (arith, lengths.1, c.requires.inside)

pub at-requires-else-place-eq0 : goal.at-requires-else-place-eq0
at-requires-else-place-eq0 c =
    let plan = c.args.plan.now in
    backward_inside plan.junctions.now plan.pieces.now plan.tiles.now plan.starts.now (c.args.place / 2) c.at-end-else-place-eq0.result c.at-piece.result c.requires.planned (omega (arith, c.requires.inside))
    (backward_end plan.junctions.now plan.pieces.now plan.tiles.now plan.starts.now c.args.place c.at-end-else-place-eq0.result c.at-end-else-place-eq0.result c.at-piece.result c.requires.planned c.requires.inside c.if-place-eq0.false c.at-end-else-place-eq0.ensures)

pub returns-then-place-eq0 : goal.returns-then-place-eq0
returns-then-place-eq0 c d =
    let plan = c.args.plan.now in
    c.forward_edge.ensures ∙ (ap (λ p. edge_row c.at.result c.args.local (record { piece = p; place = c.args.place / 2; forward = true })) c.at-piece.ensures
    ∙ forward_made plan.junctions.now plan.pieces.now plan.tiles.now plan.starts.now c.args.place c.at-end.result c.at.result c.args.local c.at-piece.result d c.requires.planned c.requires.inside c.if-place-eq0.true
    (forward_end plan.junctions.now plan.pieces.now plan.tiles.now plan.starts.now c.args.place c.at-end.result c.at-end.result c.at-piece.result c.requires.planned c.requires.inside c.if-place-eq0.true c.at-end.ensures) c.at.ensures)

pub returns-else-place-eq0 : goal.returns-else-place-eq0
returns-else-place-eq0 c d =
    let plan = c.args.plan.now in
    c.backward_edge.ensures ∙ (ap (λ p. edge_row c.at-else-place-eq0.result c.args.local (record { piece = p; place = c.args.place / 2; forward = false })) c.at-piece.ensures
    ∙ backward_made plan.junctions.now plan.pieces.now plan.tiles.now plan.starts.now c.args.place c.at-end-else-place-eq0.result c.at-else-place-eq0.result c.args.local c.at-piece.result d c.requires.planned c.requires.inside c.if-place-eq0.false
    (backward_end plan.junctions.now plan.pieces.now plan.tiles.now plan.starts.now c.args.place c.at-end-else-place-eq0.result c.at-end-else-place-eq0.result c.at-piece.result c.requires.planned c.requires.inside c.if-place-eq0.false c.at-end-else-place-eq0.ensures) c.at-else-place-eq0.ensures)
