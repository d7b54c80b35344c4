-- The numbers of via ways are the lengths of the longest words.
use Rattle.std.proofs.Common.{◌≡◌, refl, sym, ◌∙◌, ap, subst, ℕ, zero, suc, ◌-◌, ◌≤◌, ◌<◌, ℤ, Bool, true, false, cond, List, [], ◌∷◌, length, get_or, inl, inr, arith, eqb-true, eq-eqb}
use Rattle.std.specs.Prelude.{◌⊎◌, ◌&&◌, nat_eq, nat_lt}
use Rattle.std.specs.List.{list_any}
use Rattle.pattern_search.specs.Words.{Includes}
use Rattle.pattern_search.specs.Members.{Members, IsRun, run_stops, run_moves}
use Rattle.pattern_search.specs.Most.{IsMost, BeginsWithOne, most_of_one}
use Rattle.pattern_search.specs.ViaSets.{ViaTests, via_members}
use Rattle.pattern_search.specs.ViaWays.{AreTests, IsLine, ComesAfter, a_last, a_first}
use Rattle.pattern_search.specs.Numbers.{first_letters, comes_number, run_number}
use Rattle.pattern_search.proofs.Inclusion.{among_filter, among_unfilter}
use Rattle.pattern_search.proofs.MemberLaw.{and_both, and_left, and_right, differ, or_left, or_right, or_either}
use Rattle.pattern_search.proofs.MostLaw.{most_first}
use Rattle.pattern_search.proofs.ViaTables.{most_runs}

-- the number of one predicate is that of another one with the same words
same_most : {P : Type 0} (cap : ℕ) (A B : List P → Type 0) (n : ℕ) → ((w : List P) → A w → B w) → ((w : List P) → B w → A w) → IsMost cap A n → IsMost cap B n
same_most cap A B n to back most = record {
  long = λ w h. most.long w (back w h);
  few = λ low w h. most.few low w (back w h);
  met = λ some. let found = most.met some in (found.0, (to found.0 found.1.0, found.1.1));
}

begins : {P : Type 0} (Is : P → List P → Type 0) (qs : List P) (q : P) (v : List P) → Includes qs q → Is q v → BeginsWithOne Is qs (q ∷ v)
begins Is [] q v there h = absurd there
begins Is (r ∷ qs) q v (inl same) h = inl (v, (ap (λ e. e ∷ v) (sym same), subst (λ e. Is e v) (sym same) h))
begins Is (r ∷ qs) q v (inr there) h = inr (begins Is qs q v there h)

-- a word that begins with one of these letters
record IsBegun {P : Type 0} (Is : P → List P → Type 0) (qs : List P) (w : List P) : Type 0 where
  letter : P
  rest : List P
  is : w ≡ letter ∷ rest
  there : Includes qs letter
  behind : Is letter rest

begun : {P : Type 0} (Is : P → List P → Type 0) (qs : List P) (w : List P) → BeginsWithOne Is qs w → IsBegun Is qs w
begun Is [] w h = absurd h
begun Is (r ∷ qs) w (inl (v, (same, h))) = record { letter = r; rest = v; is = same; there = inl refl; behind = h }
begun Is (r ∷ qs) w (inr h) =
    let found : IsBegun Is qs w = begun Is qs w h in
    record { letter = found.letter; rest = found.rest; is = found.is; there = inr found.there; behind = found.behind }

pub any_of : {P : Type 0} (f : P → Bool) (qs : List P) (q : P) → Includes qs q → f q ≡ true → list_any f qs ≡ true
any_of f [] q there t = absurd there
any_of f (r ∷ qs) q (inl same) t = or_left (f r) (list_any f qs) (ap f same ∙ t)
any_of f (r ∷ qs) q (inr there) t = or_right (f r) (list_any f qs) (any_of f qs q there t)

pub any_is : {P : Type 0} (f : P → Bool) (qs : List P) → list_any f qs ≡ true → (q : P) × (Includes qs q × (f q ≡ true))
any_is f [] t = absurd (differ t)
any_is f (r ∷ qs) t = elim (or_either (f r) (list_any f qs) t) [
  | inl k ↦ (r, (inl refl, k))
  | inr k ↦ (let found = any_is f qs k in (found.0, (inr found.1.0, found.1.1)))
]

module _ {P : Type 0} (Joins GoesOn Last : P → P → Type 0) (way : P → ℤ) (vias : List ℤ) (none : ℤ) (t : ViaTests P) (tests : AreTests Joins GoesOn Last way vias none (via_members t)) (line : P → List P) (lines : (p : P) → IsLine Joins GoesOn p (line p)) (cap : ℕ) (capped : 1 < cap) where
  abbrev m : Members P
  m = via_members t

  some : 0 < cap
  some = omega (arith, capped)

  -- a letter of the next way, and what comes with it
  next_of : (i : ℕ) (p q : P) → m.moves i p q (suc i) ≡ true → t.of q (suc i) ≡ true
  next_of i p q h = elim (or_either (nat_eq (suc i) i && (nat_lt 0 i && t.goes_on p q)) (nat_eq (suc i) (suc i) && t.of q (suc i)) h) [
    | inl k ↦ (let same : suc i ≡ i = eqb-true (suc i) i (and_left (nat_eq (suc i) i) (nat_lt 0 i && t.goes_on p q) k) in absurd (omega (arith, same)))
    | inr k ↦ and_right (nat_eq (suc i) (suc i)) (t.of q (suc i)) k
  ]

  of_next : (i : ℕ) (p q : P) → t.of q (suc i) ≡ true → m.moves i p q (suc i) ≡ true
  of_next i p q h =
      or_right (nat_eq (suc i) i && (nat_lt 0 i && t.goes_on p q)) (nat_eq (suc i) (suc i) && t.of q (suc i)) (and_both (nat_eq (suc i) (suc i)) (t.of q (suc i)) (eq-eqb (suc i) (suc i) refl) h)

  -- behind the last way: one last letter, or none
  last_one : (p : P) → list_any (t.last p) (t.letters p) ≡ true → IsMost cap (ComesAfter m t.count p) 1
  last_one p h =
      let found : (q : P) × (Includes (t.letters p) q × (t.last p q ≡ true)) = any_is (t.last p) (t.letters p) h in
      record {
        long = long_one;
        few = few_one;
        met = λ one. (found.0 ∷ [], (a_last found.0 found.1.0 (and_both (nat_eq t.count t.count) (t.last p found.0) (eq-eqb t.count t.count refl) found.1.1), omega arith));
      }
    where
      long_one : (w : List P) → ComesAfter m t.count p w → 0 < length w
      long_one _ (a_last q there k) = omega arith
      long_one _ (a_first q rest there low k run) = omega arith

      few_one : 1 < cap → (w : List P) → ComesAfter m t.count p w → length w ≤ 1
      few_one low _ (a_last q there k) = omega arith
      few_one low _ (a_first q rest there high k run) = absurd (omega (arith, high))

  last_none : (p : P) → list_any (t.last p) (t.letters p) ≡ false → IsMost cap (ComesAfter m t.count p) 0
  last_none p h = record {
    long = λ w c. absurd (nothing w c);
    few = λ low w c. absurd (nothing w c);
    met = λ some. absurd (some refl);
  }
    where
      nothing : (w : List P) → ComesAfter m t.count p w → ⊥
      nothing _ (a_last q there k) = differ (sym h ∙ any_of (t.last p) (t.letters p) q there (and_right (nat_eq t.count t.count) (t.last p q) k))
      nothing _ (a_first q rest there high k run) = absurd (omega (arith, high))

  -- with a way left: a letter of the next one
  to_begin : (i : ℕ) → i < t.count → (p : P) (w : List P) → ComesAfter m i p w → BeginsWithOne (IsRun m (suc i)) (first_letters t (suc i) p) w
  to_begin i low p _ (a_last q there k) = let same : i ≡ t.count = eqb-true i t.count (and_left (nat_eq i t.count) (t.last p q) k) in absurd (omega (arith, same, low))
  to_begin i low p _ (a_first q rest there high k run) = begins (IsRun m (suc i)) (first_letters t (suc i) p) q rest (among_filter (λ r. t.of r (suc i)) (t.letters p) q there (next_of i p q k)) run

  from_begin : (i : ℕ) → i < t.count → (p : P) (w : List P) → BeginsWithOne (IsRun m (suc i)) (first_letters t (suc i) p) w → ComesAfter m i p w
  from_begin i low p w h =
      let found : IsBegun (IsRun m (suc i)) (first_letters t (suc i) p) w = begun (IsRun m (suc i)) (first_letters t (suc i) p) w h in
      let of : Includes (t.letters p) found.letter × (t.of found.letter (suc i) ≡ true) = among_unfilter (λ r. t.of r (suc i)) (t.letters p) found.letter found.there in
      subst (ComesAfter m i p) (sym found.is) (a_first found.letter found.rest of.0 (omega (arith, low)) (of_next i p found.letter of.1) found.behind)

  runs_at : (i : ℕ) → 0 < i → i ≤ t.count → (left : ℕ) → ((p : P) → IsMost cap (ComesAfter m i p) (comes_number cap t line left p)) → (p : P) → IsMost cap (IsRun m i p) (run_number cap t line left p)
  runs_at i more low left comes p =
      most_runs Joins GoesOn Last way vias none m tests i more (omega (arith, low, tests.count)) cap some (comes_number cap t line left) comes p (line p) (lines p)

  pub comes_most : (left : ℕ) → left ≤ t.count → (p : P) → IsMost cap (ComesAfter m (t.count - left) p) (comes_number cap t line left p)
  comes_most zero low p = subst (λ i. IsMost cap (ComesAfter m i p) (comes_number cap t line zero p)) {x = t.count} {y = t.count - 0} (omega arith) (by (list_any (t.last p) (t.letters p)) refl)
    where
      by : (b : Bool) → list_any (t.last p) (t.letters p) ≡ b → IsMost cap (ComesAfter m t.count p) (cond b 1 0)
      by true h = last_one p h
      by false h = last_none p h
  comes_most (suc left) low p =
      let i : ℕ = t.count - suc left in
      let next : suc (t.count - suc left) ≡ t.count - left = omega (arith, low) in
      let behind : (q : P) → IsMost cap (IsRun m (t.count - left) q) (run_number cap t line left q) = runs_at (t.count - left) (omega (arith, low)) (omega arith) left (comes_most left (omega (arith, low))) in
      let first : IsMost cap (BeginsWithOne (IsRun m (t.count - left)) (first_letters t (t.count - left) p)) (most_of_one cap (run_number cap t line left) (first_letters t (t.count - left) p)) = most_first cap some (IsRun m (t.count - left)) (run_number cap t line left) behind (first_letters t (t.count - left) p) in
      same_most cap (BeginsWithOne (IsRun m (t.count - left)) (first_letters t (t.count - left) p)) (ComesAfter m (t.count - suc left) p) (most_of_one cap (run_number cap t line left) (first_letters t (t.count - left) p))
      (λ w h. from_begin (t.count - suc left) (omega (arith, low)) p w (subst (λ j. BeginsWithOne (IsRun m j) (first_letters t j p) w) (sym next) h))
      (λ w h. subst (λ j. BeginsWithOne (IsRun m j) (first_letters t j p) w) next (to_begin (t.count - suc left) (omega (arith, low)) p w h))
      first

  -- the numbers of the parts of ways
  pub run_most : (left : ℕ) → left < t.count → (p : P) → IsMost cap (IsRun m (t.count - left) p) (run_number cap t line left p)
  run_most left low p = runs_at (t.count - left) (omega (arith, low)) (omega arith) left (comes_most left (omega (arith, low))) p

  -- and of the first letters, before the first way
  to_comes : 0 < t.count → (p : P) (w : List P) → IsRun m 0 p w → ComesAfter m 0 p w
  to_comes more _ _ (run_stops i p q there k) = a_last q there k
  to_comes more _ _ (run_moves i j p q rest there low k run) = by ((tests.moves 0 j p q).0 k)
    where
      by : (((j ≡ 0) × (0 < 0) × GoesOn p q) ⊎ ((j ≡ suc 0) × (0 < length vias) × (way q ≡ get_or vias 0 none))) → ComesAfter m 0 p (q ∷ rest)
      by (inl (same, never, goes)) = absurd (omega (arith, never))
      by (inr (next, inside, of)) = a_first q rest there (omega (arith, more)) (subst (λ i. m.moves 0 p q i ≡ true) next k) (subst (λ i. IsRun m i q rest) next run)

  from_comes : (p : P) (w : List P) → ComesAfter m 0 p w → IsRun m 0 p w
  from_comes p _ (a_last q there k) = run_stops 0 p q there k
  from_comes p _ (a_first q rest there low k run) = run_moves 0 (suc 0) p q rest there low k run

  pub first_most : 0 < t.count → (p : P) → IsMost cap (IsRun m 0 p) (comes_number cap t line t.count p)
  first_most more p =
      same_most cap (ComesAfter m 0 p) (IsRun m 0 p) (comes_number cap t line t.count p) (from_comes p) (to_comes more p)
      (subst (λ i. IsMost cap (ComesAfter m i p) (comes_number cap t line t.count p)) {x = t.count - t.count} {y = 0} (omega arith) (comes_most t.count (omega arith) p))
