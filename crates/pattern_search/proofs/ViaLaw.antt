-- The runs over the members of a row with via ways are its rests, way by way.
use Rattle.std.proofs.Common.{◌≡◌, refl, sym, ◌∙◌, ap, subst, ℕ, zero, suc, ◌+◌, ◌≤◌, ◌<◌, ℤ, List, [], ◌∷◌, length, get_or, drop, inl, inr, arith}
use Rattle.std.specs.Prelude.{◌⊎◌}
use Rattle.pattern_search.specs.Members.{Members, IsRun, run_stops, run_moves}
use Rattle.pattern_search.specs.ViaWays.{IsRest, comes_last, comes_next, comes_first, AreTests}

drop_all : {E : Type 0} (i : ℕ) (l : List E) → i ≡ length l → drop i l ≡ []
drop_all zero [] h = refl
drop_all zero (e ∷ es) h = absurd (omega (arith, h))
drop_all (suc i) [] h = refl
drop_all (suc i) (e ∷ es) h = drop_all i es (omega (arith, h))

drop_some : {E : Type 0} (i : ℕ) (l : List E) (d : E) → i < length l → drop i l ≡ get_or l i d ∷ drop (suc i) l
drop_some i [] d h = absurd (omega (arith, h))
drop_some zero (e ∷ es) d h = refl
drop_some (suc i) (e ∷ es) d h = drop_some i es d (omega (arith, h))

length_drop : {E : Type 0} (i : ℕ) (l : List E) → i ≤ length l → length (drop i l) + i ≡ length l
length_drop zero l h = omega arith
length_drop (suc i) [] h = absurd (omega (arith, h))
length_drop (suc i) (e ∷ es) h = let same : length (drop i es) + i ≡ length es = length_drop i es (omega (arith, h)) in omega (arith, same)

abbrev head_or : {E : Type 0} → E → List E → E
head_or d [] = d
head_or d (e ∷ es) = e

abbrev tail_of : {E : Type 0} → List E → List E
tail_of [] = []
tail_of (e ∷ es) = es

module _
    {P : Type 0}
    (Joins GoesOn Last : P → P → Type 0)
    (way : P → ℤ)
    (vias : List ℤ)
    (none : ℤ)
    (m : Members P)
    (tests : AreTests Joins GoesOn Last way vias none m) where
  abbrev Rest : List ℤ → P → List P → Type 0
  Rest ways p w = IsRest Joins GoesOn Last way ways p w

  pub to_rest : (i : ℕ) (p : P) (w : List P) → IsRun m i p w → 0 < i → Rest (drop i vias) p w
  to_rest _ _ _ (run_stops i p q there t) some =
      let both : (i ≡ length vias) × Last p q = (tests.last i p q).0 t in
      subst (λ ways. Rest ways p (q ∷ [])) (sym (drop_all i vias both.0)) (comes_last p q ((tests.letters p q).0 there) both.1)
  to_rest _ _ _ (run_moves i j p q rest there low t run) some =
      by ((tests.moves i j p q).0 t) (λ h. to_rest j q rest run h)
    where
      by : (((j ≡ i) × (0 < i) × GoesOn p q) ⊎ ((j ≡ suc i) × (i < length vias) × (way q ≡ get_or vias i none))) → (0 < j → Rest (drop j vias) q rest) → Rest (drop i vias) p (q ∷ rest)
      by (inl (same, more, goes)) after =
          let still : 0 < j = omega (arith, same, more) in
          comes_next (drop i vias) p q rest ((tests.letters p q).0 there) goes (subst (λ k. Rest (drop k vias) q rest) same (after still))
      by (inr (next, inside, of)) after =
          let still : 0 < j = omega (arith, next) in
          subst (λ ways. Rest ways p (q ∷ rest)) (sym (drop_some i vias none inside))
          (comes_first (get_or vias i none) (drop (suc i) vias) p q rest ((tests.letters p q).0 there) of (subst (λ k. Rest (drop k vias) q rest) next (after still)))

  ended_at : (i : ℕ) → i ≤ length vias → drop i vias ≡ [] → i ≡ length vias
  ended_at i low is =
      let same : length (drop i vias) + i ≡ length vias = length_drop i vias low in
      let none_left : length (drop i vias) ≡ 0 = ap length is in
      omega (arith, same, none_left)

  inside_at : (i : ℕ) (via : ℤ) (ways : List ℤ) → i ≤ length vias → drop i vias ≡ via ∷ ways → i < length vias
  inside_at i via ways low is =
      let same : length (drop i vias) + i ≡ length vias = length_drop i vias low in
      let some_left : length (drop i vias) ≡ suc (length ways) = ap length is in
      omega (arith, same, some_left)

  pub from_rest : (ways : List ℤ) (p : P) (w : List P) → Rest ways p w → (i : ℕ) → 0 < i → i ≤ length vias → drop i vias ≡ ways → IsRun m i p w
  from_rest _ _ _ (comes_last p q joins last) i some low is =
      run_stops i p q ((tests.letters p q).1 joins) ((tests.last i p q).1 (ended_at i low is, last))
  from_rest _ _ _ (comes_next ways p q rest joins goes after) i some low is =
      run_moves i i p q rest ((tests.letters p q).1 joins) (omega (arith, low, tests.count)) ((tests.moves i i p q).1 (inl (refl, some, goes))) (from_rest ways q rest after i some low is)
  from_rest _ _ _ (comes_first via ways p q rest joins of after) i some low is =
      let inside : i < length vias = inside_at i via ways low is in
      let same : get_or vias i none ∷ drop (suc i) vias ≡ via ∷ ways = sym (drop_some i vias none inside) ∙ is in
      run_moves i (suc i) p q rest ((tests.letters p q).1 joins) (omega (arith, inside, tests.count)) ((tests.moves i (suc i) p q).1 (inr (refl, inside, of ∙ sym (ap (head_or none) same)))) (from_rest ways q rest after (suc i) (omega arith) (omega (arith, inside)) (ap tail_of same))

  -- after the first piece: a piece of the first via way
  pub to_first : (p : P) (w : List P) → 0 < length vias → IsRun m 0 p w → (q : P) × ((rest : List P) × ((w ≡ q ∷ rest) × Joins p q × (way q ≡ get_or vias 0 none) × Rest (drop 1 vias) q rest))
  to_first _ _ some (run_stops i p q there t) = let both : (0 ≡ length vias) × Last p q = (tests.last 0 p q).0 t in absurd (omega (arith, some, both.0))
  to_first _ _ some (run_moves i j p q rest there low t run) = by ((tests.moves 0 j p q).0 t)
    where
      by : (((j ≡ 0) × (0 < 0) × GoesOn p q) ⊎ ((j ≡ suc 0) × (0 < length vias) × (way q ≡ get_or vias 0 none))) → (q2 : P) × ((rest2 : List P) × ((q ∷ rest ≡ q2 ∷ rest2) × Joins p q2 × (way q2 ≡ get_or vias 0 none) × Rest (drop 1 vias) q2 rest2))
      by (inl (same, more, goes)) = absurd (omega (arith, more))
      by (inr (next, inside, of)) = (q, (rest, (refl, (tests.letters p q).0 there, of, to_rest 1 q rest (subst (λ k. IsRun m k q rest) next run) (omega arith))))

  pub from_first : (p q : P) (rest : List P) → 0 < length vias → Joins p q → way q ≡ get_or vias 0 none → Rest (drop 1 vias) q rest → IsRun m 0 p (q ∷ rest)
  from_first p q rest some joins of after =
      run_moves 0 1 p q rest ((tests.letters p q).1 joins) (omega (arith, some, tests.count)) ((tests.moves 0 1 p q).1 (inr (refl, some, of))) (from_rest (drop 1 vias) q rest after 1 (omega arith) (omega (arith, some)) refl)
