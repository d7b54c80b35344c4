use Rattle.std.proofs.Common.{rules, refl, ap, subst, sym, ◌∙◌, ◌^◌, ◌<◌, length}
use Rattle.std.specs.Prelude.{IsPermutation}
use Rattle.std.proofs.lemmas.List.Sorted.{answers_always}
use Rattle.osm_model.specs.NodeOrder.{placed_from, IsInOrder}
use Rattle.osm_model.proofs.NodeLemmas.{are_spans, rows_other}
use Rattle.osm_model.proofs.NodeOrder.{moved_nodes, sorted_nodes, few_placed}
use Rattle.osm_model.proofs.nodes.Nodes.sort_by_id.Goals as goal

pub in_order-requires-clause-few : goal.in_order-requires-clause-few
in_order-requires-clause-few c =
    let same : IsPermutation (placed_from 0 c.self.inside.spots.items) c.sort_unstable_by_key.new.self.items =
    subst (λ l. IsPermutation l c.sort_unstable_by_key.new.self.items) (c.in_ok-placed.ensures ∙ ap (placed_from 0) c.deref.ensures.value) c.sort_unstable_by_key.ensures.permutation in
    subst (λ l. length l < 2 ^ 32) (sym c.deref-3.ensures.value) (few_placed _ _ same c.self.invariant.kept.few)

pub invariant_of-self : goal.invariant_of-self
invariant_of-self c =
    let made : IsInOrder c.self.inside.spans.items c.sort_unstable_by_key.new.self.items c.in_ok-spots.spots.items c.in_ok-spots.spans.items =
    rw (c.deref-2.ensures.value, c.deref-3.ensures.value) at c.in_ok-spots.ensures in
    let kept = made.kept c.self.inside.tags (are_spans _ _ _ c.self.invariant.kept) in
    let same : IsPermutation (placed_from 0 c.self.inside.spots.items) c.sort_unstable_by_key.new.self.items =
    subst (λ l. IsPermutation l c.sort_unstable_by_key.new.self.items) (c.in_ok-placed.ensures ∙ ap (placed_from 0) c.deref.ensures.value) c.sort_unstable_by_key.ensures.permutation in
    rows_other _ _ _ _ _ _ c.self.invariant kept (moved_nodes _ c.self.inside.tags _ _ _ _ _ refl (are_spans _ _ _ c.self.invariant.kept) same made)

pub returns-clause-permutation : goal.returns-clause-permutation
returns-clause-permutation c =
    let same : IsPermutation (placed_from 0 c.self.inside.spots.items) c.sort_unstable_by_key.new.self.items =
    subst (λ l. IsPermutation l c.sort_unstable_by_key.new.self.items) (c.in_ok-placed.ensures ∙ ap (placed_from 0) c.deref.ensures.value) c.sort_unstable_by_key.ensures.permutation in
    let made : IsInOrder c.self.inside.spans.items c.sort_unstable_by_key.new.self.items c.in_ok-spots.spots.items c.in_ok-spots.spans.items =
    rw (c.deref-2.ensures.value, c.deref-3.ensures.value) at c.in_ok-spots.ensures in
    moved_nodes _ c.self.inside.tags _ _ _ _ _ c.self.view_is (are_spans _ _ _ c.self.invariant.kept) same made

pub returns-clause-sorted : goal.returns-clause-sorted
returns-clause-sorted c =
    let made : IsInOrder c.self.inside.spans.items c.sort_unstable_by_key.new.self.items c.in_ok-spots.spots.items c.in_ok-spots.spans.items =
    rw (c.deref-2.ensures.value, c.deref-3.ensures.value) at c.in_ok-spots.ensures in
    sorted_nodes c.self.inside.tags _ _ _ _ (are_spans _ _ _ c.self.invariant.kept) (c.sort_unstable_by_key.ensures.sorted (λ one. one.spot.id) (answers_always _ _ _ (λ f a r g h. search rules))) made
