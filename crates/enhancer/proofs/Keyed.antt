-- A sum by keys: where none of these keys stands twice, and elements with other keys add nothing.
use Rattle.std.proofs.Common.{◌≡◌, ℕ, ◌+◌, ◌==◌, List, [], ◌∷◌, refl, sym, ap, ◌∙◌, subst, inl, inr, arith}
use Rattle.std.specs.Prelude.{nat_eq, sum_by, filter}
use Rattle.std.proofs.lemmas.Bool.{cases_Bool, cond-true, cond-false, eqb-true, eq-eqb, ne_eqb, both_ways}
use Rattle.std.proofs.lemmas.List.Sums.{sum_by-cons}
use Rattle.bounded_flood.specs.Flood.{Occurs, is_seen}
use Rattle.bounded_flood.proofs.Members.{Distinct, Occurs-from_test, test-from_Among}
use Rattle.enhancer.proofs.NearSums.{same_sum, no_sum}

one_adds : (g h : ℕ → ℕ) (k a : ℕ) (ns : List ℕ) → g k ≡ a + h k → ((n : ℕ) → (k ≡ n → ⊥) → g n ≡ h n) → Distinct ns → Occurs k ns → sum_by g ns ≡ a + sum_by h ns
one_adds g h k a [] more e d in_it = absurd in_it
one_adds g h k a (t ∷ ts) more e d in_it = elim in_it [
  | inl is ↦
      let rest = same_sum g h ts (λ u there. e u (λ same. d.0 (subst (λ w. Occurs w ts) (sym (is ∙ same)) there))) in
      let here : g t ≡ a + h t = subst (λ w. g w ≡ a + h w) (sym is) more in
      omega (arith, rest, here, sum_by-cons g t ts, sum_by-cons h t ts)
  | inr there ↦
      let rest = one_adds g h k a ts more e d.1 there in
      let other : g t ≡ h t = e t (λ same. d.0 (subst (λ w. Occurs w ts) same there)) in
      omega (arith, rest, other, sum_by-cons g t ts, sum_by-cons h t ts)
]

module _ {X : Type 0} (key f : X → ℕ) (ns : List ℕ) (d : Distinct ns) where
  abbrev of_key : List X → ℕ → ℕ
  of_key xs n = sum_by f (filter (λ x. key x == n) xs)

  with_key : (x : X) (xs : List X) → of_key (x ∷ xs) (key x) ≡ f x + of_key xs (key x)
  with_key x xs =
      ap (sum_by f) (cond-true (key x == key x) (x ∷ filter (λ y. key y == key x) xs) (filter (λ y. key y == key x) xs) (eq-eqb (key x) (key x) refl))
      ∙ sum_by-cons f x (filter (λ y. key y == key x) xs)

  other_key : (x : X) (xs : List X) (n : ℕ) → (key x ≡ n → ⊥) → of_key (x ∷ xs) n ≡ of_key xs n
  other_key x xs n other = ap (sum_by f) (cond-false (key x == n) (x ∷ filter (λ y. key y == n) xs) (filter (λ y. key y == n) xs) (ne_eqb (key x) n other))

  pub keyed : (xs : List X) → ((x : X) → Occurs x xs → (Occurs (key x) ns → ⊥) → f x ≡ 0) → sum_by {X = ℕ} (λ n. sum_by f (filter (λ x. key x == n) xs)) ns ≡ sum_by f xs
  keyed [] far = no_sum ns
  keyed (x ∷ xs) far =
      let rest = keyed xs (λ y a. far y (inr a)) in
      elim (cases_Bool (is_seen nat_eq (key x) ns)) [
        | inl yes_it ↦
            let more = one_adds (of_key (x ∷ xs)) (of_key xs) (key x) (f x) ns (with_key x xs) (other_key x xs) d
            (Occurs-from_test nat_eq eqb-true (λ n. eq-eqb n n refl) (key x) ns yes_it) in
            omega (arith, more, rest, sum_by-cons f x xs)
        | inr not_it ↦
            let absent : Occurs (key x) ns → ⊥ = λ a. both_ways (is_seen nat_eq (key x) ns) not_it (test-from_Among nat_eq eqb-true (λ n. eq-eqb n n refl) (key x) ns a) in
            let zero_here : f x ≡ 0 = far x (inl refl) absent in
            let same = same_sum (of_key (x ∷ xs)) (of_key xs) ns (λ t a. other_key x xs t (λ e. absent (subst (λ w. Occurs w ns) (sym e) a))) in
            omega (arith, same, rest, zero_here, sum_by-cons f x xs)
      ]
