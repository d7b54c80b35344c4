-- A strictly rising list is the only one with its elements.
use Rattle.std.proofs.Common.{◌≡◌, refl, sym, ◌∙◌, ap, subst, List, [], ◌∷◌, inl, inr}
use Rattle.std.specs.Prelude.{⊤, All}
use Rattle.std.proofs.lemmas.List.Elements.{All-head, All-tail}
use Rattle.road_pieces.specs.Among.{Among}

abbrev pub Rising : {E : Type 0} → (E → E → Type 0) → List E → Type 0
Rising Less [] = ⊤
Rising Less (e ∷ es) = All (Less e) es × Rising Less es

all_among : {E : Type 0} (Is : E → Type 0) (es : List E) (e : E) → All Is es → Among es e → Is e
all_among Is [] e all h = absurd h
all_among Is (f ∷ es) e all (inl is) = subst Is is (All-head Is f es all)
all_among Is (f ∷ es) e all (inr h) = all_among Is es e (All-tail Is f es all) h

module _
    {E : Type 0}
    (Less : E → E → Type 0)
    (never : (e : E) → Less e e → ⊥)
    (one_way : (e f : E) → Less e f → Less f e → ⊥) where
  -- what stands in both stands in both rests
  rest_of : (e f : E) (es fs : List E) → All (Less e) es → e ≡ f → ((g : E) → Among (e ∷ es) g → Among (f ∷ fs) g) → (g : E) → Among es g → Among fs g
  rest_of e f es fs above same within g h =
      elim (within g (inr h)) [
        | inl is ↦ absurd (never e (all_among (Less e) es e above (subst (Among es) (sym (same ∙ is)) h)))
        | inr there ↦ there
      ]

  first_is : (e f : E) (es fs : List E) → All (Less e) es → All (Less f) fs → Among (f ∷ fs) e → Among (e ∷ es) f → e ≡ f
  first_is e f es fs above_e above_f (inl is) k = sym is
  first_is e f es fs above_e above_f (inr h) (inl is) = is
  first_is e f es fs above_e above_f (inr h) (inr k) =
      absurd (one_way e f (all_among (Less e) es f above_e k) (all_among (Less f) fs e above_f h))

  pub one_rising : (es fs : List E) → Rising Less es → Rising Less fs → ((g : E) → Among es g → Among fs g) → ((g : E) → Among fs g → Among es g) → es ≡ fs
  one_rising [] [] rises other to back = refl
  one_rising [] (f ∷ fs) rises other to back = absurd (back f (inl refl))
  one_rising (e ∷ es) [] rises other to back = absurd (to e (inl refl))
  one_rising (e ∷ es) (f ∷ fs) rises other to back =
      let same : e ≡ f = first_is e f es fs rises.0 other.0 (to e (inl refl)) (back f (inl refl)) in
      let rest : es ≡ fs =
      one_rising es fs rises.1 other.1 (rest_of e f es fs rises.0 same to) (rest_of f e fs es other.0 (sym same) back) in
      ap (λ g. g ∷ es) same ∙ ap (λ l. f ∷ l) rest
