-- what stands in a list, lists in which nothing stands twice, and how long they are
use Rattle.std.proofs.Common.{◌≡◌, ℕ, zero, suc, ◌<◌, ◌≤◌, Bool, true, Some, List, [], ◌∷◌, ◌++◌, length, refl, sym, ap, ◌∙◌, subst, inl, inr, arith}
use Rattle.std.specs.Prelude.{◌⊎◌, slice_get}
use Rattle.std.proofs.lemmas.Bool.{or_cases, or_left, or_right}
use Rattle.std.proofs.lemmas.Option.{none-some, same_Some}
use Rattle.bounded_flood.specs.Flood.{Occurs, is_seen}

module _ {J : Type 0} where
  pub Occurs-left : (x : J) (xs ys : List J) → Occurs x xs → Occurs x (xs ++ ys)
  Occurs-left x [] ys h = absurd h
  Occurs-left x (z ∷ zs) ys h = elim h [ inl e ↦ inl e | inr r ↦ inr (Occurs-left x zs ys r) ]

  pub Occurs-right : (x : J) (xs ys : List J) → Occurs x ys → Occurs x (xs ++ ys)
  Occurs-right x [] ys h = h
  Occurs-right x (z ∷ zs) ys h = inr (Occurs-right x zs ys h)

  pub Occurs-split : (x : J) (xs ys : List J) → Occurs x (xs ++ ys) → Occurs x xs ⊎ Occurs x ys
  Occurs-split x [] ys h = inr h
  Occurs-split x (z ∷ zs) ys h =
      elim h [ inl e ↦ inl (inl e) | inr r ↦ elim (Occurs-split x zs ys r) [ inl a ↦ inl (inr a) | inr b ↦ inr b ] ]

  pub Occurs-place : (x : J) (xs : List J) → Occurs x xs → (k : ℕ) × (k < length xs) × (slice_get xs k ≡ Some x)
  Occurs-place x [] h = absurd h
  Occurs-place x (z ∷ zs) h = elim h [
    | inl e ↦ (0, omega arith, ap Some e)
    | inr r ↦ let there = Occurs-place x zs r in (suc there.0, omega (arith, there.1), there.2)
  ]

  pub place-Occurs : (x : J) (xs : List J) (k : ℕ) → slice_get xs k ≡ Some x → Occurs x xs
  place-Occurs x [] k h = absurd (none-some x h)
  place-Occurs x (z ∷ zs) zero h = inl (same_Some z x h)
  place-Occurs x (z ∷ zs) (suc k) h = inr (place-Occurs x zs k h)

  pub get-left : (xs ys : List J) (k : ℕ) → k < length xs → slice_get (xs ++ ys) k ≡ slice_get xs k
  get-left [] ys k h = absurd (omega arith)
  get-left (x ∷ xs) ys zero h = refl
  get-left (x ∷ xs) ys (suc k) h = get-left xs ys k (omega arith)

  -- nothing stands twice
  abbrev pub Distinct : List J → Type 0
  Distinct [] = Unit {0}
  Distinct (x ∷ xs) = (Occurs x xs → ⊥) × Distinct xs

  pub Distinct-push : (xs : List J) (x : J) → Distinct xs → (Occurs x xs → ⊥) → Distinct (xs ++ x ∷ [])
  Distinct-push [] x d fresh = ((λ h. h), tt)
  Distinct-push (y ∷ ys) x d fresh = (
    (λ h. elim (Occurs-split y ys (x ∷ []) h) [
      | inl a ↦ d.0 a
      | inr b ↦ elim b [ inl e ↦ fresh (inl (sym e)) | inr none ↦ none ]
    ]),
    Distinct-push ys x d.1 (λ h. fresh (inr h)),
  )

  -- a list without one of its elements
  pub taken_out : (x : J) (ys : List J) → Occurs x ys
      → (rest : List J) × (length ys ≡ suc (length rest)) × ((z : J) → Occurs z ys → (x ≡ z) ⊎ Occurs z rest)
  taken_out x [] h = absurd h
  taken_out x (y ∷ ys) h = elim h [
    | inl e ↦ (ys, refl, λ z in_all. elim in_all [ inl same ↦ inl (sym e ∙ same) | inr r ↦ inr r ])
    | inr there ↦
        let w = taken_out x ys there in (
          y ∷ w.0,
          ap suc w.1,
          λ z in_all. elim in_all [
            | inl same ↦ inr (inl same)
            | inr r ↦ elim (w.2 z r) [ inl e ↦ inl e | inr b ↦ inr (inr b) ]
          ],
        )
  ]

  -- where nothing stands twice and each element stands in another list, that one is no shorter
  pub no_shorter : (xs ys : List J) → Distinct xs → ((x : J) → Occurs x xs → Occurs x ys) → length xs ≤ length ys
  no_shorter [] ys d all = omega arith
  no_shorter (x ∷ xs) ys d all =
      let w = taken_out x ys (all x (inl refl)) in
      let fewer : length xs ≤ length w.0 =
      no_shorter xs w.0 d.1 (λ z h. elim (w.2 z (all z (inr h))) [
        | inl e ↦ absurd (d.0 (subst (λ v. Occurs v xs) (sym e) h))
        | inr b ↦ b
      ]) in
      omega (arith, w.1)

module _ {J : Type 0} (same : J → J → Bool) (decides : (a b : J) → same a b ≡ true → a ≡ b) (itself_same : (a : J) → same a a ≡ true) where
  pub Occurs-from_test : (x : J) (xs : List J) → is_seen same x xs ≡ true → Occurs x xs
  Occurs-from_test x [] h = absurd (cc h)
  Occurs-from_test x (y ∷ ys) h = elim (or_cases (same y x) (is_seen same x ys) h) [
    | inl e ↦ inl (decides y x e)
    | inr r ↦ inr (Occurs-from_test x ys r)
  ]

  pub test-from_Among : (x : J) (xs : List J) → Occurs x xs → is_seen same x xs ≡ true
  test-from_Among x [] h = absurd h
  test-from_Among x (y ∷ ys) h = elim h [
    | inl e ↦ or_left (same y x) (is_seen same x ys) (subst (λ z. same y z ≡ true) e (itself_same y))
    | inr r ↦ or_right (same y x) (is_seen same x ys) (test-from_Among x ys r)
  ]
