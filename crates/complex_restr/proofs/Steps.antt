-- The step of a loop over patterns.
use Rattle.std.proofs.Common.{◌≡◌, ℕ, ◌+◌, ◌<◌, sym, ◌∙◌, ap, subst, List, [], ◌∷◌, ◌++◌, length, get_or, take}
use Rattle.std.proofs.lemmas.List.{take_more}

-- what holds of the first ones and one more holds of one more of the first ones
pub one_more : {A : Type 0} (P : List A → Type 0) (xs : List A) (i : ℕ) (x : A) → i < length xs → x ≡ get_or xs i x → P (take i xs ++ x ∷ []) → P (take (i + 1) xs)
one_more P xs i x inside is h = subst P (sym (take_more xs i x inside ∙ ap (λ y. take i xs ++ y ∷ []) (sym is))) h
