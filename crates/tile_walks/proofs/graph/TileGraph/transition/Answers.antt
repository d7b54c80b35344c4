use Rattle.std.proofs.Common.{sym, ◌∙◌, subst, rules, map}
use Rattle.tile_walks.specs.Keys.{Rise}
use Rattle.tile_walks.specs.Steps.{transition_in}
use Rattle.tile_walks.proofs.Lookup.{none_at}
use Rattle.tile_walks.proofs.Transitions.{transition_found, transition_only, no_transition}
use Rattle.tile_walks.proofs.graph.TileGraph.transition.Goals as goal

pub returns-in_err-at-clause-only : goal.returns-in_err-at-clause-only
returns-in_err-at-clause-only c = λ to one.
    absurd (none_at (λ t. map (transition_in t c.args.place) t.nodes) c.self.inside.tiles.items c.as_slice.result.now c.args.from (c.self.invariant.0 ∙ sym c.as_slice.ensures.value) (search rules)
    (λ k inside same. c.in_err-at.ensures.none k inside (same ∙ sym c.key.ensures)) _ c.self.view_is _ one)

pub returns-in_err-node-clause-only : goal.returns-in_err-node-clause-only
returns-in_err-node-clause-only c = λ to one.
    absurd (no_transition c.self.inside.tiles.items c.as_slice.result.now c.args.from c.args.place (c.self.invariant.0 ∙ sym c.as_slice.ensures.value) (search rules)
    c.in_ok-at.at c.index-tile.result.now c.id.result c.in_ok-at.ensures.some.0 (c.in_ok-at.ensures.some.1 ∙ c.key.ensures) c.index-tile.ensures c.id.ensures _ c.self.view_is
    (subst Rise (sym c.as_slice.ensures.value) c.self.invariant.1) c.in_err-node.ensures to one)

pub returns-clause-found : goal.returns-clause-found
returns-clause-found c =
    transition_found c.self.inside.tiles.items c.as_slice.result.now c.args.from c.args.place (c.self.invariant.0 ∙ sym c.as_slice.ensures.value) (search rules)
    c.in_ok-at.at c.index-tile.result.now c.id.result c.in_ok-at.ensures.some.0 (c.in_ok-at.ensures.some.1 ∙ c.key.ensures) c.index-tile.ensures c.id.ensures _ c.self.view_is
    c.in_ok-node.node.now c.transition_in.result c.in_ok-node.ensures c.transition_in.ensures

pub returns-clause-only : goal.returns-clause-only
returns-clause-only c =
    transition_only c.self.inside.tiles.items c.as_slice.result.now c.args.from c.args.place (c.self.invariant.0 ∙ sym c.as_slice.ensures.value) (search rules)
    c.in_ok-at.at c.index-tile.result.now c.id.result c.in_ok-at.ensures.some.0 (c.in_ok-at.ensures.some.1 ∙ c.key.ensures) c.index-tile.ensures c.id.ensures _ c.self.view_is
    (subst Rise (sym c.as_slice.ensures.value) c.self.invariant.1) c.in_ok-node.node.now c.transition_in.result c.in_ok-node.ensures c.transition_in.ensures
