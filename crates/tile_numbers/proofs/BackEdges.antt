-- The first element of a list that passes a test, and what a loop over the list knows before it.
use Rattle.std.proofs.Common.{◌≡◌, ◌∙◌, ℕ, ◌+◌, ◌<◌, ◌≤◌, refl, sym, ap, List, [], ◌∷◌, length, get_or, Bool, true, false, cond, ltb, Some, None, inl, inr, arith}
use Rattle.std.specs.Prelude.{unwrap_or}
use Rattle.std.specs.Option.{option_map}
use Rattle.std.specs.List.{position, position_or_len, find, slice_get}
use Rattle.std.proofs.lemmas.Bool.{lt-ltb, le-ltb, cases_order}
use Rattle.std.proofs.lemmas.List.{get_or_default}
use Rattle.std.proofs.lemmas.List.Sums.{position_or_len_is}
use Rattle.std.proofs.lemmas.List.Folds.{find_at}
use Rattle.std.proofs.lemmas.Option.{slice_get_read, slice_get_past}

none_at : {X : Type 0} (p : X → Bool) (xs : List X) (k : ℕ) → length xs ≤ k → ((j : ℕ) (d : X) → j < k → p (get_or xs j d) ≡ false) → position_or_len p xs ≡ length xs
none_at p [] k past none = refl
none_at p (x ∷ xs) k past none =
    position_or_len_is p (x ∷ xs) (length (x ∷ xs)) x (omega arith) (λ j l. none j x (omega (arith, l, past))) (λ l. absurd (omega (arith, l)))

module _ {X : Type 0} (p : X → Bool) (xs : List X) where
  abbrev pub NoneBefore : ℕ → Type 0
  NoneBefore k = (j : ℕ) (d : X) → j < k → p (get_or xs j d) ≡ false

  pub first_at : (k : ℕ) (x : X) → k < length xs → x ≡ get_or xs k x → p x ≡ true → NoneBefore k → position_or_len p xs ≡ k
  first_at k x inside here passes none = position_or_len_is p xs k x (omega (arith, inside)) (λ j l. none j x l) (λ l. ap p (sym here) ∙ passes)

  -- and not the one at `k` either
  pub none_next : (k : ℕ) (x : X) → k < length xs → x ≡ get_or xs k x → p x ≡ false → NoneBefore k → NoneBefore (k + 1)
  none_next k x inside here fails none = λ j d h. elim (cases_order j k) [
    | inl at ↦ ap p (ap (λ i. get_or xs i d) at ∙ get_or_default xs k d x inside ∙ sym here) ∙ fails
    | inr other ↦ elim other [ inl less ↦ none j d less | inr more ↦ absurd (omega (arith, h, more)) ]
  ]

  pub index_is : (k : ℕ) (x : X) → k < length xs → x ≡ get_or xs k x → p x ≡ true → NoneBefore k → k ≡ unwrap_or (position p xs) 0
  index_is k x inside here passes none =
      sym (ap (λ i. unwrap_or (cond (ltb i (length xs)) (Some i) None) 0) (first_at k x inside here passes none)
      ∙ ap (λ b. unwrap_or (cond b (Some k) None) 0) (lt-ltb k (length xs) inside))

  pub value_is : (f : X → ℕ) (k : ℕ) (x : X) → k < length xs → x ≡ get_or xs k x → p x ≡ true → NoneBefore k → f x ≡ unwrap_or (option_map f (find p xs)) 0
  value_is f k x inside here passes none =
      sym (ap (λ o. unwrap_or (option_map f o) 0) (find_at p xs)
      ∙ ap (λ i. unwrap_or (option_map f (slice_get xs i)) 0) (first_at k x inside here passes none)
      ∙ ap (λ o. unwrap_or (option_map f o) 0) (slice_get_read xs (length xs) k x refl inside here))

  pub no_index : (k : ℕ) → length xs ≤ k → NoneBefore k → 0 ≡ unwrap_or (position p xs) 0
  no_index k past none =
      sym (ap (λ i. unwrap_or (cond (ltb i (length xs)) (Some i) None) 0) (none_at p xs k past none)
      ∙ ap (λ b. unwrap_or (cond b (Some (length xs)) None) 0) (le-ltb (length xs) (length xs) (omega arith)))

  pub no_value : (f : X → ℕ) (k : ℕ) → length xs ≤ k → NoneBefore k → 0 ≡ unwrap_or (option_map f (find p xs)) 0
  no_value f k past none =
      sym (ap (λ o. unwrap_or (option_map f o) 0) (find_at p xs)
      ∙ ap (λ i. unwrap_or (option_map f (slice_get xs i)) 0) (none_at p xs k past none)
      ∙ ap (λ o. unwrap_or (option_map f o) 0) (slice_get_past xs (length xs) (omega arith)))
