-- What a binary search finds.
use Rattle.std.proofs.Common.{◌≡◌, ℕ, ◌<◌, ◌≤◌, List, length, get_or, Result, Ok, Err, Option, sym, subst, arith, inl, inr}
use Rattle.std.specs.Prelude.{◌≢◌, MatchResult, IfSome, IfNone, slice_index}
use Rattle.std.specs.Result.{result_ok}
use Rattle.std.proofs.lemmas.Bool.{cases_lt}
use Rattle.tile_walks.specs.Keys.{Rise}

pub rises_weakly : (keys : List ℕ) → Rise keys → (i j : ℕ) → i ≤ j → j < length keys → slice_index keys i ≤ slice_index keys j
rises_weakly keys rises i j h inside = elim (cases_lt i j) [
  | inl below ↦ let k = rises i j below inside in omega (arith, k)
  | inr over ↦ let same : i ≡ j = omega (arith, h, over) in subst (λ m. slice_index keys i ≤ slice_index keys m) same (omega arith)
]

abbrev Search : List ℕ → ℕ → Result ℕ ℕ → Type 0
Search xs x r = MatchResult r (λ i. (i < length xs) × (get_or xs i 0 ≡ x)) (λ i. (i ≤ length xs) × ((k : ℕ) → k < i → get_or xs k 0 < x) × ((k : ℕ) → i ≤ k → k < length xs → x < get_or xs k 0))

pub some_place : (xs : List ℕ) (x : ℕ) (r : Result ℕ ℕ) → Search xs x r → {o : Option ℕ} → o ≡ result_ok r → IfSome o (λ i. (i < length xs) × (slice_index xs i ≡ x))
some_place xs x (Ok i) m e = subst (λ o. IfSome o (λ i. (i < length xs) × (slice_index xs i ≡ x))) (sym e) m
some_place xs x (Err i) m e = subst (λ o. IfSome o (λ i. (i < length xs) × (slice_index xs i ≡ x))) (sym e) tt

pub no_place : (xs : List ℕ) (x : ℕ) (r : Result ℕ ℕ) → Search xs x r → {o : Option ℕ} → o ≡ result_ok r → IfNone o ((k : ℕ) → k < length xs → slice_index xs k ≢ x)
no_place xs x (Ok i) m e = subst (λ o. IfNone o ((k : ℕ) → k < length xs → slice_index xs k ≢ x)) (sym e) tt
no_place xs x (Err i) m e =
    subst (λ o. IfNone o ((k : ℕ) → k < length xs → slice_index xs k ≢ x)) (sym e)
    (λ k inside same. elim (cases_lt k i) [ inl below ↦ let h = m.1 k below in omega (arith, h, same) | inr over ↦ let h = m.2 k over inside in omega (arith, h, same) ])
