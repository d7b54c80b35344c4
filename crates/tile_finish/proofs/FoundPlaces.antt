-- What a binary search among places finds.
use Rattle.std.proofs.Common.{◌≡◌, ℕ, ◌<◌, ◌≤◌, List, length, get_or, Result, Ok, Err, sym, ap, subst, arith, inl, inr, eq-eqb}
use Rattle.std.specs.Prelude.{MatchResult, nat_eq}
use Rattle.std.specs.Ordering.{nat_cmp}
use Rattle.std.specs.List.Sorted.{IsBinarySearchResult}
use Rattle.std.specs.List.{position_or_len}
use Rattle.std.proofs.lemmas.Bool.{cases_lt, ne_eqb}
use Rattle.std.proofs.lemmas.List.{get_or_past}
use Rattle.std.proofs.lemmas.List.Sorted.{searched}
use Rattle.std.proofs.lemmas.List.Sums.{position_or_len_is}
use Rattle.tile_finish.specs.Finishing.{start_at_place, AreStarts}

module _ (places starts : List ℕ) (are : AreStarts places starts) where
  rises_weakly : (i j : ℕ) → i ≤ j → j < length places → get_or places i 0 ≤ get_or places j 0
  rises_weakly i j h inside = elim (cases_lt i j) [
    | inl below ↦ let k = are.rise i j 0 below inside in omega (arith, k)
    | inr over ↦ let same : i ≡ j = omega (arith, h, over) in let k = ap (λ m. get_or places m 0) same in omega (arith, k)
  ]

  -- found at this index
  pub at_found : (place i : ℕ) → i < length places → get_or places i 0 ≡ place → get_or starts i 0 ≡ start_at_place places starts place
  at_found place i inside here =
      let at : position_or_len (nat_eq place) places ≡ i =
      position_or_len_is (nat_eq place) places i 0 (omega (arith, inside))
      (λ k l. ne_eqb place (get_or places k 0) (λ e. let below = are.rise k i 0 l inside in omega (arith, below, here, e)))
      (λ l. eq-eqb place (get_or places i 0) (sym here)) in
      ap (λ k. get_or starts k 0) (sym at)

  -- found nowhere
  at_none : (place i : ℕ) → ((k : ℕ) → k < i → get_or places k 0 < place) → ((k : ℕ) → i ≤ k → k < length places → place < get_or places k 0) → 0 ≡ start_at_place places starts place
  at_none place i below above =
      let at : position_or_len (nat_eq place) places ≡ length places =
      position_or_len_is (nat_eq place) places (length places) 0 (omega arith)
      (λ k l. ne_eqb place (get_or places k 0) (λ e. elim (cases_lt k i) [ inl low ↦ let h = below k low in omega (arith, h, e) | inr high ↦ let h = above k high l in omega (arith, h, e) ]))
      (λ l. absurd (omega (arith, l))) in
      sym (get_or_past starts (position_or_len (nat_eq place) places) 0 (omega (arith, at, are.same)))

  abbrev Found : ℕ → Result ℕ ℕ → Type 0
  Found place r = MatchResult r (λ i. (i < length places) × (get_or places i 0 ≡ place)) (λ i. (i ≤ length places) × ((k : ℕ) → k < i → get_or places k 0 < place) × ((k : ℕ) → i ≤ k → k < length places → place < get_or places k 0))

  pub start_found : (place i : ℕ) (r : Result ℕ ℕ) → IsBinarySearchResult (λ y. nat_cmp y place) places r → r ≡ Ok i → get_or starts i 0 ≡ start_at_place places starts place
  start_found place i r so is = let m = subst (Found place) is (searched places place r so rises_weakly) in at_found place i m.0 m.1

  pub start_none : (place i : ℕ) (r : Result ℕ ℕ) → IsBinarySearchResult (λ y. nat_cmp y place) places r → r ≡ Err i → 0 ≡ start_at_place places starts place
  start_none place i r so is = let m = subst (Found place) is (searched places place r so rises_weakly) in at_none place i m.1 m.2
