use Rattle.std.proofs.Common.{sym, ◌∙◌, subst, rules}
use Rattle.tile_walks.specs.Keys.{Rise}
use Rattle.tile_walks.proofs.Lookup.{found_at, only_at, none_at}
use Rattle.tile_walks.proofs.graph.TileGraph.edge.Goals as goal

pub returns-clause-found : goal.returns-clause-found
returns-clause-found c =
    found_at (λ t. t.edges) c.self.inside.tiles.items c.as_slice.result.now c.args.id (c.self.invariant.0 ∙ sym c.as_slice.ensures.value) (search rules)
    c.in_ok-at.at c.index.result.now c.id.result _ c.in_ok-at.ensures.some.0 (c.in_ok-at.ensures.some.1 ∙ c.key.ensures) c.index.ensures c.id.ensures c.get.ensures _ c.self.view_is

pub returns-in_err-at-clause-only : goal.returns-in_err-at-clause-only
returns-in_err-at-clause-only c = λ r one.
    absurd (none_at (λ t. t.edges) c.self.inside.tiles.items c.as_slice.result.now c.args.id (c.self.invariant.0 ∙ sym c.as_slice.ensures.value) (search rules)
    (λ k inside same. c.in_err-at.ensures.none k inside (same ∙ sym c.key.ensures)) _ c.self.view_is r one)

pub returns-clause-only : goal.returns-clause-only
returns-clause-only c =
    only_at (λ t. t.edges) c.self.inside.tiles.items c.as_slice.result.now c.args.id (c.self.invariant.0 ∙ sym c.as_slice.ensures.value) (search rules)
    (subst Rise (sym c.as_slice.ensures.value) c.self.invariant.1)
    c.in_ok-at.at c.index.result.now c.id.result _ c.in_ok-at.ensures.some.0 (c.in_ok-at.ensures.some.1 ∙ c.key.ensures) c.index.ensures c.id.ensures c.get.ensures _ c.self.view_is
