-- Nodes in order of id: the place of an id, and what a search by halves knows.
use Rattle.std.proofs.Common.{◌≡◌, ℕ, ◌+◌, ◌<◌, ◌≤◌, subst, List, length, get_or, ℤ, true, false, inl, inr, arith}
use Rattle.std.specs.Prelude.{◌<ℤ◌}
use Rattle.std.specs.Ordering.{int_eq}
use Rattle.std.specs.Cmp.{signed_Decides}
use Rattle.std.proofs.lemmas.Int.{ints}
use Rattle.std.proofs.lemmas.Bool.{false_from_ne_true, cases_order}
use Rattle.std.proofs.lemmas.List.{get_or_default}
use Rattle.std.proofs.lemmas.List.Sums.{position_or_len_is}
use Rattle.std.proofs.lemmas.List.Folds.{list_any_at, list_any_none}
use Rattle.osm_model.specs.declared.nodes.OsmNode.{OsmNode}
use Rattle.osm_model.specs.Extract.{NodesRise}
use Rattle.road_pieces.specs.Runs.{has_node}
use Rattle.road_pieces.specs.Lines.{place_of}
use Rattle.road_pieces.specs.NodeIndex.{OnlyWithin}

-- two ids of which one is below the other are two
pub below_differs : (a b : ℤ) → a <ℤ b → int_eq a b ≡ false
below_differs a b h = false_from_ne_true (int_eq a b) (λ e. absurd (omega (arith, ints, (signed_Decides a b).0 e)))

pub place_is : (nodes : List OsmNode) (p : ℕ) (d : OsmNode) (id : ℤ) → NodesRise nodes → p < length nodes → (get_or nodes p d).id ≡ id → place_of nodes id ≡ p
place_is nodes p d id rise h e =
    position_or_len_is (λ node. int_eq node.id id) nodes p d (omega arith)
    (λ k l. below_differs (get_or nodes k d).id id (subst (λ i. (get_or nodes k d).id <ℤ i) e (rise k p d l h)))
    (λ l. (signed_Decides (get_or nodes p d).id id).1 e)

pub node_there : (nodes : List OsmNode) (p : ℕ) (d : OsmNode) (id : ℤ) → p < length nodes → (get_or nodes p d).id ≡ id → has_node nodes id ≡ true
node_there nodes p d id h e =
    list_any_at (λ node. int_eq node.id id) nodes p d h ((signed_Decides (get_or nodes p d).id id).1 e)

-- what stands in the middle is below: the id is above it
pub only_above : (nodes : List OsmNode) (id : ℤ) (low high middle : ℕ) (d : OsmNode) → NodesRise nodes → middle < high → (get_or nodes middle d).id <ℤ id → OnlyWithin nodes id low high → OnlyWithin nodes id (middle + 1) high
only_above nodes id low high middle d rise m h b = record {
  inside = b.inside;
  only = λ k e l same. elim (cases_order k middle) [
    | inl at ↦ let there = subst (λ j. (get_or nodes j e).id ≡ id) at same in
        let g = subst (λ n. n.id <ℤ id) (get_or_default nodes middle d e (omega (arith, b.inside))) h in
        absurd (omega (arith, ints, g, there))
    | inr other ↦ elim other [
      | inl less ↦ let r = rise k middle e less (omega (arith, b.inside)) in
          let g = subst (λ n. n.id <ℤ id) (get_or_default nodes middle d e (omega (arith, b.inside))) h in
          absurd (omega (arith, ints, r, g, same))
      | inr more ↦ (omega arith, (b.only k e l same).1)
    ]
  ];
}

-- what stands in the middle is above: the id is below it
pub only_below : (nodes : List OsmNode) (id : ℤ) (low high middle : ℕ) (d : OsmNode) → NodesRise nodes → middle < high → id <ℤ (get_or nodes middle d).id → OnlyWithin nodes id low high → OnlyWithin nodes id low middle
only_below nodes id low high middle d rise m h b = record {
  inside = omega (arith, b.inside);
  only = λ k e l same. elim (cases_order k middle) [
    | inl at ↦ let there = subst (λ j. (get_or nodes j e).id ≡ id) at same in
        let g = subst (λ n. id <ℤ n.id) (get_or_default nodes middle d e (omega (arith, b.inside))) h in
        absurd (omega (arith, ints, g, there))
    | inr other ↦ elim other [
      | inl less ↦ ((b.only k e l same).0, less)
      | inr more ↦ let r = rise middle k e more l in
          let g = subst (λ n. id <ℤ n.id) (get_or_default nodes middle d e (omega (arith, b.inside))) h in
          absurd (omega (arith, ints, r, g, same))
    ]
  ];
}

-- where no place is left, there is no such node
pub none_within : (nodes : List OsmNode) (id : ℤ) (low high : ℕ) → high ≤ low → OnlyWithin nodes id low high → has_node nodes id ≡ false
none_within nodes id low high h b =
    list_any_none (λ node. int_eq node.id id) nodes (λ k d l. false_from_ne_true (int_eq (get_or nodes k d).id id) (λ e.
    let there = b.only k d l ((signed_Decides (get_or nodes k d).id id).0 e) in
    absurd (omega (arith, there.0, there.1))))
