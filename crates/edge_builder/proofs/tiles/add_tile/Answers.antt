use Rattle.std.proofs.Common.{◌∙◌, ◌++◌, ◌∷◌, [], ap, sym, append-nil, eq-eqb, eqb-true}
use Rattle.std.proofs.lemmas.Bool.{both_ways}
use Rattle.edge_builder.proofs.TileLemmas.{used, not_used}
use Rattle.edge_builder.proofs.tiles.add_tile.Goals as goal

pub returns-in_ok-push : goal.returns-in_ok-push
returns-in_ok-push c =
    let plan = c.args.plan.now in
    c.in_ok-push.ensures.items ∙ ap (λ ts. c.args.tiles.now.items ++ ts)
    (ap (λ t. t ∷ []) (c.in_ok-whole.ensures ∙ c.in_ok-rows.ensures) ∙ used plan.junctions.now plan.pieces.now plan.tiles.now c.args.here.now c.args.tile c.requires.planned.tiles_are c.requires.here (λ e. both_ways _ (sym c.is_empty.ensures ∙ c.if-not-is_empty.true) (eq-eqb _ 0 e)))

pub returns-else-not-is_empty : goal.returns-else-not-is_empty
returns-else-not-is_empty c =
    let plan = c.args.plan.now in
    sym (append-nil c.args.tiles.now.items)
    ∙ ap (λ ts. c.args.tiles.now.items ++ ts) (not_used plan.junctions.now plan.pieces.now plan.tiles.now c.args.here.now c.args.tile c.requires.planned.tiles_are c.requires.here (eqb-true _ 0 (sym c.is_empty.ensures ∙ c.if-not-is_empty.false)))
