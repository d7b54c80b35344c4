-- what holds of those that a flood has seen, after every number of looks
use Rattle.std.proofs.Common.{◌≡◌, ℕ, zero, suc, ◌<◌, Bool, true, Option, Some, None, List, [], ◌∷◌, ◌++◌, length, refl, sym, ◌∙◌, subst, inl, inr, arith, append_assoc}
use Rattle.std.specs.Prelude.{slice_get}
use Rattle.std.proofs.lemmas.Bool.{cond_both, both_ways, cases_eq}
use Rattle.std.proofs.lemmas.List.{append-nil}
use Rattle.std.proofs.lemmas.Option.{none-some, same_Some, slice_get_within}
use Rattle.bounded_flood.specs.Flood.{Occurs, Linked, to_itself, by_link, is_seen, seen_too, seen_all, near_of, spread}
use Rattle.bounded_flood.proofs.Members.{Occurs-left, Occurs-right, Occurs-split, get-left, Distinct, Distinct-push, place-Occurs, Occurs-from_test, test-from_Among}

module _ {J : Type 0} (same : J → J → Bool) where
  -- those that were seen stay, in front
  pub seen_all-front : (seen xs : List J) → (more : List J) × (seen_all same seen xs ≡ seen ++ more)
  seen_all-front seen [] = ([], sym (append-nil seen))
  seen_all-front seen (x ∷ xs) =
      cond_both (is_seen same x seen) seen (seen ++ x ∷ []) (λ s. (more : List J) × (seen_all same s xs ≡ seen ++ more))
      (λ e. seen_all-front seen xs)
      (λ e. let rest = seen_all-front (seen ++ x ∷ []) xs in (x ∷ rest.0, rest.1 ∙ append_assoc seen (x ∷ []) rest.0))

  pub seen_all-keeps : (seen xs : List J) (y : J) → Occurs y seen → Occurs y (seen_all same seen xs)
  seen_all-keeps seen xs y h = let front = seen_all-front seen xs in subst (λ s. Occurs y s) (sym front.1) (Occurs-left y seen front.0 h)

module _ {J : Type 0} (same : J → J → Bool) (decides : (a b : J) → same a b ≡ true → a ≡ b) (itself_same : (a : J) → same a a ≡ true) where
  -- and each of the others is among them then
  pub seen_all-all : (seen xs : List J) (y : J) → Occurs y xs → Occurs y (seen_all same seen xs)
  seen_all-all seen [] y h = absurd h
  seen_all-all seen (x ∷ xs) y h = elim h [
    | inl e ↦
        subst (λ v. Occurs v (seen_all same (seen_too same seen x) xs)) e
        (seen_all-keeps same (seen_too same seen x) xs x
        (cond_both (is_seen same x seen) seen (seen ++ x ∷ []) (λ s. Occurs x s)
        (λ yes_it_is. Occurs-from_test same decides itself_same x seen yes_it_is)
        (λ it_is_not. Occurs-right x seen (x ∷ []) (inl refl))))
    | inr r ↦ seen_all-all (seen_too same seen x) xs y r
  ]

  module _ (near : J → List J) (v : J) where
    -- those that were seen: linked to v, each once, v one of them
    pub record Seen (seen : List J) : Type 0 where
      pub linked : (x : J) → Occurs x seen → Linked near v x
      pub distinct : Distinct seen
      pub first : Occurs v seen

    pub seen_too-Seen : (seen : List J) (x : J) → Seen seen → Linked near v x → Seen (seen_too same seen x)
    seen_too-Seen seen x s h =
        cond_both (is_seen same x seen) seen (seen ++ x ∷ []) Seen
        (λ e. s)
        (λ e. record {
          linked = λ y in_it. elim (Occurs-split y seen (x ∷ []) in_it) [
            | inl a ↦ s.linked y a
            | inr b ↦ elim b [ inl e2 ↦ subst (λ z. Linked near v z) e2 h | inr none ↦ absurd none ]
          ];
          distinct = Distinct-push seen x s.distinct (λ a. both_ways (is_seen same x seen) e (test-from_Among same decides itself_same x seen a));
          first = Occurs-left v seen (x ∷ []) s.first;
        })

    pub seen_all-Seen : (seen xs : List J) → Seen seen → ((x : J) → Occurs x xs → Linked near v x) → Seen (seen_all same seen xs)
    seen_all-Seen seen [] s all = s
    seen_all-Seen seen (x ∷ xs) s all =
        seen_all-Seen (seen_too same seen x) xs (seen_too-Seen seen x s (all x (inl refl))) (λ y h. all y (inr h))

    -- the neighbours of the first n that were seen were seen too
    abbrev pub NeighboursSeen : ℕ → List J → Type 0
    NeighboursSeen n seen = (k : ℕ) (x y : J) → k < n → slice_get seen k ≡ Some x → Occurs y (near x) → Occurs y seen

    abbrev pub Flooded : ℕ → Type 0
    Flooded n = Seen (spread same near v n) × NeighboursSeen n (spread same near v n)

    look_none : (n : ℕ) (seen : List J) → slice_get seen n ≡ None → NeighboursSeen n seen → NeighboursSeen (suc n) seen
    look_none n seen none before = λ k x y small at h. elim (cases_eq k n) [
      | inl e ↦ absurd (none-some x (sym none ∙ subst (λ i. slice_get seen i ≡ Some x) e at))
      | inr other ↦ before k x y (omega arith) at h
    ]

    look_one : (n : ℕ) (seen : List J) (z : J) → slice_get seen n ≡ Some z → NeighboursSeen n seen → NeighboursSeen (suc n) (seen_all same seen (near z))
    look_one n seen z here before = λ k x y small at h.
        let inside : n < length seen = slice_get_within seen n z here in
        let front = seen_all-front same seen (near z) in
        let was : slice_get seen k ≡ Some x =
        sym (get-left seen front.0 k (omega arith)) ∙ subst (λ s. slice_get s k ≡ Some x) front.1 at in
        elim (cases_eq k n) [
          | inl e ↦
              let is : z ≡ x = same_Some z x (sym here ∙ subst (λ i. slice_get seen i ≡ Some x) e was) in
              seen_all-all seen (near z) y (subst (λ w. Occurs y (near w)) (sym is) h)
          | inr other ↦ seen_all-keeps same seen (near z) y (before k x y (omega arith) was h)
        ]

    turn : (n : ℕ) (seen : List J) (o : Option J) → slice_get seen n ≡ o → Seen seen → NeighboursSeen n seen
        → Seen (seen_all same seen (near_of near o)) × NeighboursSeen (suc n) (seen_all same seen (near_of near o))
    turn n seen None here s before = (s, look_none n seen here before)
    turn n seen (Some z) here s before = (
      seen_all-Seen seen (near z) s (λ x h. by_link (s.linked z (place-Occurs z seen n here)) h),
      look_one n seen z here before,
    )

    pub flooded : (n : ℕ) → Flooded n
    unfolding spread
    flooded zero = (
      record {
        linked = λ x h. elim h [ inl e ↦ subst (λ w. Linked near v w) e to_itself | inr none ↦ absurd none ];
        distinct = ((λ h. h), tt);
        first = inl refl;
      },
      λ k x y small at h. absurd (omega arith),
    )
    flooded (suc n) =
        let before = flooded n in
        turn n (spread same near v n) (slice_get (spread same near v n) n) refl before.0 before.1
