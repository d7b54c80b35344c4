-- What a loop knows that looks whether an element of a list passes a test.
use Rattle.std.proofs.Common.{◌≡◌, ◌∙◌, ℕ, ◌+◌, ◌<◌, ◌≤◌, sym, ap, List, length, take, get_or, Bool, true, false}
use Rattle.std.specs.Prelude.{◌||◌}
use Rattle.std.specs.List.{list_any}
use Rattle.std.proofs.lemmas.List.{take_all}
use Rattle.std.proofs.lemmas.List.Folds.{list_any_at, list_any_more}

module _ {X : Type 0} (test : X → Bool) (xs : List X) where
  -- none of the first k passes
  abbrev pub NoneOf : ℕ → Type 0
  NoneOf k = list_any test (take k xs) ≡ false

  pub one_passes : (k : ℕ) (x : X) → k < length xs → x ≡ get_or xs k x → test x ≡ true → true ≡ list_any test xs
  one_passes k x inside here passes = sym (list_any_at test xs k x inside (ap test (sym here) ∙ passes))

  pub none_more : (k : ℕ) (x : X) → k < length xs → x ≡ get_or xs k x → test x ≡ false → NoneOf k → NoneOf (k + 1)
  none_more k x inside here fails none =
      list_any_more test xs k x inside ∙ ap (λ b. b || test (get_or xs k x)) none ∙ ap test (sym here) ∙ fails

  pub none_passes : (k : ℕ) → length xs ≤ k → NoneOf k → false ≡ list_any test xs
  none_passes k past none = sym none ∙ ap (list_any test) (take_all k xs past)
