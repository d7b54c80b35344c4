-- What a search by halves knows of nodes in order of OSM id.
use Rattle.std.proofs.Common.{◌≡◌, ℕ, ◌+◌, ◌<◌, ◌≤◌, subst, List, [], length, get_or, ℤ, pos, false, inl, inr, arith, Some, None}
use Rattle.std.specs.Prelude.{◌<ℤ◌, position}
use Rattle.std.specs.Ordering.{int_eq}
use Rattle.std.specs.Cmp.{signed_Decides}
use Rattle.std.proofs.lemmas.Int.{ints}
use Rattle.std.proofs.lemmas.Bool.{false_from_ne_true, cases_order}
use Rattle.std.proofs.lemmas.List.{get_or_default}
use Rattle.osm_model.specs.Extract.{IdsRise}
use Rattle.work_tile.specs.WorkRows.{WorkNode}
use Rattle.enhancer.proofs.First.{some_first, none_first}

-- what stands for a node that isn't there
abbrev pub no_node : WorkNode
no_node = record { osm = pos 0; at = record { lat = pos 0; lon = pos 0 }; access = 0; barrier = false; density = 0; edges = [] }

-- no node outside these places has the id
pub record OnlyBetween (nodes : List WorkNode) (osm : ℤ) (low high : ℕ) : Type 0 where
  pub only : (k : ℕ) (d : WorkNode) → k < length nodes → (get_or nodes k d).osm ≡ osm → (low ≤ k) × (k < high)
  pub inside : high ≤ length nodes

abbrev pub Rise : List WorkNode → Type 0
Rise nodes = IdsRise (λ (n : WorkNode). n.osm) nodes

differs : (a b : ℤ) → (a ≡ b → ⊥) → int_eq a b ≡ false
differs a b h = false_from_ne_true (int_eq a b) (λ e. h ((signed_Decides a b).0 e))

pub all_between : (nodes : List WorkNode) (osm : ℤ) (high : ℕ) → high ≡ length nodes → OnlyBetween nodes osm 0 high
all_between nodes osm high e = record { only = λ k d l same. (omega arith, omega (arith, l, e)); inside = omega (arith, e) }

pub found_at : (nodes : List WorkNode) (osm : ℤ) (p : ℕ) → Rise nodes → p < length nodes → (get_or nodes p no_node).osm ≡ osm → Some p ≡ position (λ n. int_eq n.osm osm) nodes
found_at nodes osm p rise h same =
    some_first (λ n. int_eq n.osm osm) nodes no_node p h
    (λ k l. differs (get_or nodes k no_node).osm osm (λ e. let r = rise k p no_node l h in absurd (omega (arith, ints, r, e, same))))
    ((signed_Decides (get_or nodes p no_node).osm osm).1 same)

-- where no place is left, there is no such node
pub none_between : (nodes : List WorkNode) (osm : ℤ) (low high : ℕ) → (low < high → ⊥) → OnlyBetween nodes osm low high → None ≡ position (λ n. int_eq n.osm osm) nodes
none_between nodes osm low high h b =
    none_first (λ n. int_eq n.osm osm) nodes no_node
    (λ k l. differs (get_or nodes k no_node).osm osm (λ e. let there = b.only k no_node l e in h (omega (arith, there.0, there.1))))

-- what stands in the middle is below: the id is above it
pub only_above : (nodes : List WorkNode) (osm : ℤ) (low high middle : ℕ) (d : WorkNode) → Rise nodes → middle < high → (get_or nodes middle d).osm <ℤ osm → OnlyBetween nodes osm low high → OnlyBetween nodes osm (middle + 1) high
only_above nodes osm low high middle d rise m h b = record {
  inside = b.inside;
  only = λ k e l same. elim (cases_order k middle) [
    | inl at ↦ let there = subst (λ j. (get_or nodes j e).osm ≡ osm) at same in
        let g = subst (λ n. n.osm <ℤ osm) (get_or_default nodes middle d e (omega (arith, b.inside))) h in
        absurd (omega (arith, ints, g, there))
    | inr other ↦ elim other [
      | inl less ↦ let r = rise k middle e less (omega (arith, b.inside)) in
          let g = subst (λ n. n.osm <ℤ osm) (get_or_default nodes middle d e (omega (arith, b.inside))) h in
          absurd (omega (arith, ints, r, g, same))
      | inr more ↦ (omega arith, (b.only k e l same).1)
    ]
  ];
}

-- what stands in the middle is above: the id is below it
pub only_below : (nodes : List WorkNode) (osm : ℤ) (low high middle : ℕ) (d : WorkNode) → Rise nodes → middle < high → osm <ℤ (get_or nodes middle d).osm → OnlyBetween nodes osm low high → OnlyBetween nodes osm low middle
only_below nodes osm low high middle d rise m h b = record {
  inside = omega (arith, b.inside);
  only = λ k e l same. elim (cases_order k middle) [
    | inl at ↦ let there = subst (λ j. (get_or nodes j e).osm ≡ osm) at same in
        let g = subst (λ n. osm <ℤ n.osm) (get_or_default nodes middle d e (omega (arith, b.inside))) h in
        absurd (omega (arith, ints, g, there))
    | inr other ↦ elim other [
      | inl less ↦ ((b.only k e l same).0, less)
      | inr more ↦ let r = rise middle k e more l in
          let g = subst (λ n. osm <ℤ n.osm) (get_or_default nodes middle d e (omega (arith, b.inside))) h in
          absurd (omega (arith, ints, r, g, same))
    ]
  ];
}
