-- A rising list is no longer than a list with all its elements.
use Rattle.std.proofs.Common.{◌≡◌, refl, sym, ◌∙◌, ap, subst, ℕ, suc, ◌≤◌, List, [], ◌∷◌, length, inl, inr, arith}
use Rattle.std.specs.Prelude.{◌⊎◌, ◌<◌}
use Rattle.pattern_search.specs.Words.{Before, Includes, Rising}

-- a list without the first place of an element that stands in it
pub record Without {E : Type 0} (e : E) (list : List E) : Type 0 where
  rest : List E
  size : length list ≡ suc (length rest)
  kept : (f : E) → Includes list f → (e ≡ f) ⊎ Includes rest f

without : {E : Type 0} (e : E) (list : List E) → Includes list e → Without e list
without e [] h = absurd h
without e (f ∷ fs) (inl is) = record {
  rest = fs;
  size = refl;
  kept = λ g h. elim h [
    | inl same ↦ inl (sym is ∙ same)
    | inr k ↦ inr k
  ];
}
without e (f ∷ fs) (inr h) =
    let found : Without e fs = without e fs h in
    record {
      rest = f ∷ found.rest;
      size = ap suc found.size;
      kept = λ g k. elim k [
        | inl same ↦ inr (inl same)
        | inr there ↦ (elim (found.kept g there) [
          | inl is ↦ inl is
          | inr here ↦ inr (inr here)
        ])
      ];
    }

pub no_longer : {E : Type 0} (Less : E → E → Type 0) → ((e : E) → Less e e → ⊥) → (es all : List E) → Rising Less es → ((e : E) → Includes es e → Includes all e) → length es ≤ length all
no_longer Less never [] all rises within = omega arith
no_longer Less never (e ∷ es) all rises within =
    let found : Without e all = without e all (within e (inl refl)) in
    let rest : length es ≤ length found.rest = no_longer Less never es found.rest rises.1 (λ f h. elim (found.kept f (within f (inr h))) [
      | inl is ↦ absurd (never e (subst (Less e) (sym is) (rises.0 f h)))
      | inr k ↦ k
    ]) in
    let size : length all ≡ suc (length found.rest) = found.size in
    omega (arith, rest, size)

-- no word of numbers stands before itself
pub never_before : (w : List ℕ) → Before (λ p q. p < q) w w → ⊥
never_before [] h = h
never_before (p ∷ ps) (inl low) = absurd (omega (arith, low))
never_before (p ∷ ps) (inr h) = never_before ps h.1
