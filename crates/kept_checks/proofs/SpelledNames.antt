-- One name more that is UTF-8.
use Rattle.std.proofs.Common.{◌≡◌, ◌∙◌, ℕ, ◌+◌, ◌<◌, true, ap, subst, List, length, get_or, inl, inr, arith}
use Rattle.std.specs.Str.{IsUtf8, is_utf8}
use Rattle.std.proofs.lemmas.Bool.{cases_lt}
use Rattle.std.proofs.lemmas.List.{get_or_default}
use Rattle.std.proofs.lemmas.Str.{is_utf8-from_IsUtf8}

pub name_next : (names : List (List ℕ)) (k : ℕ) (name : List ℕ) → ((i : ℕ) (d : List ℕ) → i < k → is_utf8 (get_or names i d) ≡ true) → k < length names → name ≡ get_or names k name → IsUtf8 name → (i : ℕ) (d : List ℕ) → i < k + 1 → is_utf8 (get_or names i d) ≡ true
name_next names k name before inside here utf8 i d h = elim (cases_lt i k) [
  | inl low ↦ before i d low
  | inr high ↦ (
      let same : k ≡ i = omega (arith, h, high) in
      subst (λ t. is_utf8 t ≡ true) (here ∙ get_or_default names k name d inside ∙ ap (λ j. get_or names j d) same) (is_utf8-from_IsUtf8 name utf8)
      )
]
