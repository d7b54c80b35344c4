-- The runs at a member are those along the rest of its run: so the table made along runs tells where a word can be
-- completed, and where it can be too long.
use Rattle.std.proofs.Common.{◌≡◌, refl, sym, ◌∙◌, ap, subst, ℕ, suc, ◌≤◌, ◌<◌, ℤ, true, List, [], ◌∷◌, length, get_or, inl, inr, arith}
use Rattle.std.specs.Prelude.{◌≢◌, ◌⊎◌, ◌↔◌, Bool, false, nat_lt}
use Rattle.std.proofs.lemmas.Bool.{ltb-true, ltb-false}
use Rattle.pattern_search.specs.Members.{Members, IsRun, run_stops, run_moves}
use Rattle.pattern_search.specs.Most.{IsMost, IsAlong, most_along}
use Rattle.pattern_search.specs.ViaWays.{AreTests, IsLine, ComesAfter, a_last, a_first}
use Rattle.pattern_search.proofs.MostLaw.{most_line}

module _
    {P : Type 0}
    (Joins GoesOn Last : P → P → Type 0)
    (way : P → ℤ)
    (vias : List ℤ)
    (none : ℤ)
    (m : Members P)
    (tests : AreTests Joins GoesOn Last way vias none m) where
  -- a run either ends its part after p, or goes on in it
  first_step : (i : ℕ) (p : P) (w : List P) → IsRun m i p w → ComesAfter m i p w ⊎ ((q : P) × ((v : List P) × ((w ≡ q ∷ v) × Joins p q × GoesOn p q × IsRun m i q v)))
  first_step _ _ _ (run_stops i p q there t) = inl (a_last q there t)
  first_step _ _ _ (run_moves i j p q rest there low t run) = by ((tests.moves i j p q).0 t)
    where
      by : (((j ≡ i) × (0 < i) × GoesOn p q) ⊎ ((j ≡ suc i) × (i < length vias) × (way q ≡ get_or vias i none))) → ComesAfter m i p (q ∷ rest) ⊎ ((r : P) × ((v : List P) × ((q ∷ rest ≡ r ∷ v) × Joins p r × GoesOn p r × IsRun m i r v)))
      by (inl (same, more, goes)) = inr (q, (rest, (refl, (tests.letters p q).0 there, goes, subst (λ k. IsRun m k q rest) same run)))
      by (inr (next, inside, of)) = inl (a_first q rest there (omega (arith, next, low)) (subst (λ k. m.moves i p q k ≡ true) next t) (subst (λ k. IsRun m k q rest) next run))

  from_after : (i : ℕ) (p : P) (w : List P) → ComesAfter m i p w → IsRun m i p w
  from_after i p _ (a_last q there t) = run_stops i p q there t
  from_after i p _ (a_first q rest there low t run) = run_moves i (suc i) p q rest there low t run

  to_along : (i : ℕ) (p : P) (line w : List P) → IsLine Joins GoesOn p line → IsRun m i p w → IsAlong (ComesAfter m i) p line w
  to_along i p [] w is run = elim (first_step i p w run) [
    | inl here ↦ here
    | inr (q, (v, (same, joins, goes, after))) ↦ absurd (is q joins goes)
  ]
  to_along i p (q ∷ qs) w is run = by (first_step i p w run) (λ v after. to_along i q qs v is.3 after)
    where
      by : ComesAfter m i p w ⊎ ((r : P) × ((v : List P) × ((w ≡ r ∷ v) × Joins p r × GoesOn p r × IsRun m i r v))) → ((v : List P) → IsRun m i q v → IsAlong (ComesAfter m i) q qs v) → IsAlong (ComesAfter m i) p (q ∷ qs) w
      by (inl here) rest = inl here
      by (inr (r, (v, (same, joins, goes, after)))) rest =
          let one : r ≡ q = is.2 r joins goes in
          inr (v, (same ∙ ap (λ e. e ∷ v) one, rest v (subst (λ e. IsRun m i e v) one after)))

  from_along : (i : ℕ) → 0 < i → i ≤ length vias → (p : P) (line w : List P) → IsLine Joins GoesOn p line → IsAlong (ComesAfter m i) p line w → IsRun m i p w
  from_along i some low p [] w is h = from_after i p w h
  from_along i some low p (q ∷ qs) w is (inl here) = from_after i p w here
  from_along i some low p (q ∷ qs) w is (inr (v, (same, after))) =
      subst (IsRun m i p) (sym same) (run_moves i i p q v ((tests.letters p q).1 is.0) (omega (arith, low, tests.count)) ((tests.moves i i p q).1 (inl (refl, some, is.1))) (from_along i some low q qs v is.3 after))

  -- the number along the line is that of the runs
  pub most_runs : (i : ℕ) → 0 < i → i ≤ length vias → (cap : ℕ) → 0 < cap → (e : P → ℕ) → ((p : P) → IsMost cap (ComesAfter m i p) (e p)) → (p : P) (line : List P) → IsLine Joins GoesOn p line → IsMost cap (IsRun m i p) (most_along cap e p line)
  most_runs i some low cap capped e is p line lines =
      let most : IsMost cap (IsAlong (ComesAfter m i) p line) (most_along cap e p line) = most_line cap capped (ComesAfter m i) e is p line in
      record {
        long = λ w run. most.long w (to_along i p line w lines run);
        few = λ small w run. most.few small w (to_along i p line w lines run);
        met = λ some_most. let found = most.met some_most in (found.0, (from_along i some low p line found.0 lines found.1.0, found.1.1));
      }

-- what a number says: whether there is a word, and whether there is one of so many letters
pub some_word : {P : Type 0} (cap : ℕ) (Is : List P → Type 0) (n : ℕ) → 0 < cap → IsMost cap Is n → (w : List P) → Is w → n ≢ 0
some_word cap Is n capped most w is none =
    let short : length w ≤ n = most.few (omega (arith, capped, none)) w is in
    let long : 0 < length w = most.long w is in
    absurd (omega (arith, short, long, none))

pub long_word : {P : Type 0} (cap : ℕ) (Is : List P → Type 0) (n k : ℕ) → 0 < k → k < cap → IsMost cap Is n → (k ≤ n) ↔ ((w : List P) × (Is w × (k ≤ length w)))
long_word {P} cap Is n k some capped most =
    (λ h. let found = most.met (λ none. absurd (omega (arith, some, h, none))) in let long : n ≤ length found.0 = found.1.1 in (found.0, (found.1.0, omega (arith, long, h))), λ found. by (nat_lt n k) refl found)
  where
    by : (b : Bool) → nat_lt n k ≡ b → (w : List P) × (Is w × (k ≤ length w)) → k ≤ n
    by true t found =
        let low : n < k = ltb-true n k t in
        let short : length found.0 ≤ n = most.few (omega (arith, low, capped)) found.0 found.1.0 in
        absurd (omega (arith, low, short, found.1.1))
    by false t found = ltb-false n k t
