-- The first element of a list that passes a test.
use Rattle.std.proofs.Common.{◌≡◌, ◌∙◌, ℕ, ◌<◌, sym, ap, List, length, get_or, Bool, true, false, cond, ltb, Some, None, arith}
use Rattle.std.specs.List.{position, position_or_len}
use Rattle.std.proofs.lemmas.Bool.{lt-ltb, le-ltb}
use Rattle.std.proofs.lemmas.List.Sums.{position_or_len_is}

module _ {X : Type 0} (test : X → Bool) (xs : List X) (d : X) where
  abbrev pub NoneBefore : ℕ → Type 0
  NoneBefore k = (j : ℕ) → j < k → test (get_or xs j d) ≡ false

  pub some_first : (k : ℕ) → k < length xs → NoneBefore k → test (get_or xs k d) ≡ true → Some k ≡ position test xs
  some_first k inside none passes =
      let is : position_or_len test xs ≡ k = position_or_len_is test xs k d (omega (arith, inside)) none (λ l. passes) in
      sym (ap (λ i. cond (ltb i (length xs)) (Some i) None) is ∙ ap (λ b. cond b (Some k) None) (lt-ltb k (length xs) inside))

  pub none_first : NoneBefore (length xs) → None ≡ position test xs
  none_first none =
      let is : position_or_len test xs ≡ length xs = position_or_len_is test xs (length xs) d (omega arith) none (λ l. absurd (omega (arith, l))) in
      sym (ap (λ i. cond (ltb i (length xs)) (Some i) None) is ∙ ap (λ b. cond b (Some (length xs)) None) (le-ltb (length xs) (length xs) (omega arith)))
