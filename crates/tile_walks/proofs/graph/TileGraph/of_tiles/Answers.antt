use Rattle.std.proofs.Common.{◌≡◌, ap, sym, ◌∙◌, subst, Some}
use Rattle.std.proofs.lemmas.List.Sorted.{All-permutation}
use Rattle.tile_bytes.specs.Tiles.{PassesChecks}
use Rattle.tile_walks.specs.Keys.{Rise, keys_of}
use Rattle.tile_walks.proofs.Doubles.{least_is, keys_rise, once_each, named_from, moved_double, no_double, Named}
use Rattle.tile_walks.proofs.graph.TileGraph.of_tiles.Goals as goal

pub returns-in-Some-clause-fault : goal.returns-in-Some-clause-fault
returns-in-Some-clause-fault c =
    least_is _ _ c.in-Some.id c.in_order-tiles.ensures.permutation c.in_order-tiles.ensures.sorted
    (named_from _ (All-permutation PassesChecks _ _ c.in_order-tiles.ensures.permutation c.requires))
    (moved_double _ _ _ (Some c.in-Some.id) c.deref.ensures.value c.in-Some.is c.least_double.ensures)

named : (c : goal.In-Ok) → Named c.in_order-tiles.result.items
named c = named_from c.in_order-tiles.result.items (All-permutation PassesChecks c.args.tiles.items c.in_order-tiles.result.items c.in_order-tiles.ensures.permutation c.requires)

rise : (c : goal.In-Ok) → Rise (keys_of c.in_order-tiles.result.items)
rise c = keys_rise _ c.in_order-tiles.ensures.sorted (named c) (no_double _ _ c.least_double.result c.deref.ensures.value c.in_default.not-Some c.least_double.ensures)

pub invariant_of-result : goal.invariant_of-result
invariant_of-result c =
    let same : keys_of c.in_order-tiles.result.items ≡ c.in-Ok.keys.items = ap keys_of (sym c.deref-2.ensures.value) ∙ sym c.in-Ok.ensures in
    (same, subst Rise same (rise c), All-permutation PassesChecks _ _ c.in_order-tiles.ensures.permutation c.requires)

pub returns-clause-order : goal.returns-clause-order
returns-clause-order c = rise c

pub returns-clause-once : goal.returns-clause-once
returns-clause-once c = λ id two. once_each _ _ id c.in_order-tiles.ensures.permutation (named c) (rise c) two
