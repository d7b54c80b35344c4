-- Tests that decide what via ways ask make their members.
use Rattle.std.proofs.Common.{◌≡◌, sym, ◌∙◌, subst, ℕ, suc, ◌<◌, ℤ, Bool, true, List, length, get_or, inl, inr, eqb-true, eq-eqb, ltb-true, lt-ltb}
use Rattle.std.specs.Prelude.{◌⊎◌, ◌↔◌, ◌&&◌, ◌||◌, nat_eq, nat_lt}
use Rattle.pattern_search.specs.ViaSets.{ViaTests, via_members}
use Rattle.pattern_search.specs.ViaWays.{AreTests}
use Rattle.pattern_search.specs.Deciding.{TestsDecide}
use Rattle.pattern_search.proofs.MemberLaw.{and_both, and_left, and_right, or_left, or_right, or_either}

module _ {P : Type 0} (Joins GoesOn Last : P → P → Type 0) (way : P → ℤ) (vias : List ℤ) (none : ℤ) (t : ViaTests P) (d : TestsDecide Joins GoesOn Last way vias none t) where
  abbrev stays : ℕ → ℕ → P → P → Bool
  stays i j p q = nat_eq j i && (nat_lt 0 i && t.goes_on p q)

  abbrev comes : ℕ → ℕ → P → Bool
  comes i j q = nat_eq j (suc i) && t.of q j

  last_is : (i : ℕ) (p q : P) → ((nat_eq i t.count && t.last p q) ≡ true) ↔ ((i ≡ length vias) × Last p q)
  last_is i p q = (
    λ h. (eqb-true i t.count (and_left (nat_eq i t.count) (t.last p q) h) ∙ d.count, (d.last p q).0 (and_right (nat_eq i t.count) (t.last p q) h)),
    λ both. and_both (nat_eq i t.count) (t.last p q) (eq-eqb i t.count (both.0 ∙ sym d.count)) ((d.last p q).1 both.1),
  )

  to_move : (i j : ℕ) (p q : P) → (stays i j p q || comes i j q) ≡ true → ((j ≡ i) × (0 < i) × GoesOn p q) ⊎ ((j ≡ suc i) × (i < length vias) × (way q ≡ get_or vias i none))
  to_move i j p q h = elim (or_either (stays i j p q) (comes i j q) h) [
    | inl k ↦ (let rest : (nat_lt 0 i && t.goes_on p q) ≡ true = and_right (nat_eq j i) (nat_lt 0 i && t.goes_on p q) k in
        inl (eqb-true j i (and_left (nat_eq j i) (nat_lt 0 i && t.goes_on p q) k), ltb-true 0 i (and_left (nat_lt 0 i) (t.goes_on p q) rest), (d.goes_on p q).0 (and_right (nat_lt 0 i) (t.goes_on p q) rest)))
    | inr k ↦ (let same : j ≡ suc i = eqb-true j (suc i) (and_left (nat_eq j (suc i)) (t.of q j) k) in
        let of : (i < length vias) × (way q ≡ get_or vias i none) = (d.of q i).0 (subst (λ n. t.of q n ≡ true) same (and_right (nat_eq j (suc i)) (t.of q j) k)) in
        inr (same, of.0, of.1))
  ]

  from_move : (i j : ℕ) (p q : P) → ((j ≡ i) × (0 < i) × GoesOn p q) ⊎ ((j ≡ suc i) × (i < length vias) × (way q ≡ get_or vias i none)) → (stays i j p q || comes i j q) ≡ true
  from_move i j p q (inl (same, more, goes)) =
      or_left (stays i j p q) (comes i j q) (and_both (nat_eq j i) (nat_lt 0 i && t.goes_on p q) (eq-eqb j i same) (and_both (nat_lt 0 i) (t.goes_on p q) (lt-ltb 0 i more) ((d.goes_on p q).1 goes)))
  from_move i j p q (inr (same, low, of)) =
      or_right (stays i j p q) (comes i j q) (and_both (nat_eq j (suc i)) (t.of q j) (eq-eqb j (suc i) same) (subst (λ n. t.of q n ≡ true) (sym same) ((d.of q i).1 (low, of))))

  pub tests_are : AreTests Joins GoesOn Last way vias none (via_members t)
  tests_are = record {
    count = d.count;
    letters = d.letters;
    last = last_is;
    moves = λ i j p q. (to_move i j p q, from_move i j p q);
  }
