-- The pairs of successive stops of a list are the intervals that begin and end at stops, with none between.
use Rattle.std.proofs.Common.{◌≡◌, ℕ, zero, suc, ◌+◌, ◌<◌, ◌≤◌, refl, sym, ◌∙◌, ap, subst, List, [], ◌∷◌, length, get_or, Bool, true, false, cond, inl, inr, arith}
use Rattle.std.specs.Prelude.{◌⊎◌}
use Rattle.std.proofs.lemmas.Bool.{cases_order, cases_lt, both_ways}
use Rattle.road_pieces.specs.Rows.{stops, spans, spans_from}
use Rattle.road_pieces.proofs.Members.{IsIn}

-- so many stops from place k on, where the places are tested by their number
abbrev pub stops_by : (ℕ → Bool) → ℕ → ℕ → List ℕ
stops_by at k zero = []
stops_by at k (suc count) = cond (at k) (k ∷ stops_by at (k + 1) count) (stops_by at (k + 1) count)

pub stops_are : {A : Type 0} (test : A → Bool) (d : A) (at : ℕ → Bool) (xs : List A) (k : ℕ) → ((i : ℕ) → i < length xs → at (k + i) ≡ test (get_or xs i d)) → stops test k xs ≡ stops_by at k (length xs)
stops_are test d at [] k same = refl
stops_are test d at (x ∷ xs) k same =
    let here : at k ≡ test x = ap at {x = k} {y = k + 0} (omega arith) ∙ same 0 (omega arith) in
    let rest : stops test (k + 1) xs ≡ stops_by at (k + 1) (length xs) =
    stops_are test d at xs (k + 1) (λ i h. ap at {x = k + 1 + i} {y = k + suc i} (omega arith) ∙ same (suc i) (omega arith)) in
    ap (λ l. cond (test x) (k ∷ l) l) rest ∙ ap (λ b. cond b (k ∷ stops_by at (k + 1) (length xs)) (stops_by at (k + 1) (length xs))) (sym here)

pub record IsSpan (at : ℕ → Bool) (size from to : ℕ) : Type 0 where
  pub rises : from < to
  pub inside : to < size
  pub begins : at from ≡ true
  pub ends : at to ≡ true
  pub plain : (k : ℕ) → from < k → k < to → at k ≡ false

module _ (at : ℕ → Bool) where
  -- a pair of successive stops is such an interval
  first_of : (i k a b : ℕ) → ◌≡◌ {A = ℕ × ℕ} (i, k) (a, b) → (i ≡ a) × (k ≡ b)
  first_of i k a b e = (ap (λ p. p.0) e, ap (λ p. p.1) e)

  grown : (i k : ℕ) → ((j : ℕ) → i < j → j < k → at j ≡ false) → at k ≡ false → (j : ℕ) → i < j → j < k + 1 → at j ≡ false
  grown i k plain clear j h l = elim (cases_order j k) [
    | inl e ↦ ap at e ∙ clear
    | inr other ↦ elim other [ inl below ↦ plain j h below | inr above ↦ absurd (omega arith) ]
  ]

  sound_from : (count k i a b : ℕ) → at i ≡ true → i < k → ((j : ℕ) → i < j → j < k → at j ≡ false) → IsIn (spans_from i (stops_by at k count)) (a, b) → IsSpan at (k + count) a b
  sound_from zero k i a b here h plain is = absurd is
  sound_from (suc count) k i a b here h plain is =
      sound_by (at k) refl is
      (λ found. subst (λ n. IsIn (spans_from k (stops_by at (k + 1) count)) (a, b) → IsSpan at n a b) {x = k + 1 + count} {y = k + suc count} (omega arith) (sound_from count (k + 1) k a b found (omega arith) (λ j m n. absurd (omega arith))))
      (λ clear. subst (λ n. IsIn (spans_from i (stops_by at (k + 1) count)) (a, b) → IsSpan at n a b) {x = k + 1 + count} {y = k + suc count} (omega arith) (sound_from count (k + 1) i a b here (omega arith) (grown i k plain clear)))
    where
      sound_by : (t : Bool) → at k ≡ t → IsIn (spans_from i (cond t (k ∷ stops_by at (k + 1) count) (stops_by at (k + 1) count))) (a, b) → (at k ≡ true → IsIn (spans_from k (stops_by at (k + 1) count)) (a, b) → IsSpan at (k + suc count) a b) → (at k ≡ false → IsIn (spans_from i (stops_by at (k + 1) count)) (a, b) → IsSpan at (k + suc count) a b) → IsSpan at (k + suc count) a b
      sound_by true e (inl same) goes stays =
          let (from, to) = first_of i k a b same in
          record {
            rises = omega arith;
            inside = omega arith;
            begins = ap at (sym from) ∙ here;
            ends = ap at (sym to) ∙ e;
            plain = λ j m n. plain j (omega arith) (omega arith);
          }
      sound_by true e (inr later) goes stays = goes e later
      sound_by false e in_rest goes stays = stays e in_rest

  pub sound : (count k a b : ℕ) → IsIn (spans (stops_by at k count)) (a, b) → IsSpan at (k + count) a b
  sound zero k a b is = absurd is
  sound (suc count) k a b is =
      sound_by (at k) refl is
      (λ found. subst (λ n. IsIn (spans_from k (stops_by at (k + 1) count)) (a, b) → IsSpan at n a b) {x = k + 1 + count} {y = k + suc count} (omega arith) (sound_from count (k + 1) k a b found (omega arith) (λ j m n. absurd (omega arith))))
      (subst (λ n. IsIn (spans (stops_by at (k + 1) count)) (a, b) → IsSpan at n a b) {x = k + 1 + count} {y = k + suc count} (omega arith) (sound count (k + 1) a b))
    where
      sound_by : (t : Bool) → at k ≡ t → IsIn (spans (cond t (k ∷ stops_by at (k + 1) count) (stops_by at (k + 1) count))) (a, b) → (at k ≡ true → IsIn (spans_from k (stops_by at (k + 1) count)) (a, b) → IsSpan at (k + suc count) a b) → (IsIn (spans (stops_by at (k + 1) count)) (a, b) → IsSpan at (k + suc count) a b) → IsSpan at (k + suc count) a b
      sound_by true e in_rest goes stays = goes e in_rest
      sound_by false e in_rest goes stays = stays in_rest

  -- such an interval is a pair of successive stops: either its first stop came before, and its last comes from
  -- place k on, or both come from there on
  abbrev Ahead : ℕ → ℕ → ℕ → ℕ → Type 0
  Ahead i k a b = ((a ≡ i) × (k ≤ b)) ⊎ (k ≤ a)

  past : (k j : ℕ) → at k ≡ false → at j ≡ true → k ≤ j → k + 1 ≤ j
  past k j clear found h = elim (cases_lt k j) [
    | inl less ↦ omega arith
    | inr other ↦ absurd (both_ways (at k) clear (ap at {x = k} {y = j} (omega arith) ∙ found))
  ]

  complete_from : (count k i a b : ℕ) → i < k → IsSpan at (k + count) a b → Ahead i k a b → IsIn (spans_from i (stops_by at k count)) (a, b)
  complete_from zero k i a b h is (inl (e, l)) = absurd (omega (arith, is.inside))
  complete_from zero k i a b h is (inr l) = absurd (omega (arith, is.inside, is.rises))
  complete_from (suc count) k i a b h is ahead =
      complete_by (at k) refl ahead
      (λ next. complete_from count (k + 1) k a b (omega arith) moved next)
      (λ next. complete_from count (k + 1) i a b (omega arith) moved next)
    where
      moved : IsSpan at (k + 1 + count) a b
      moved = subst (λ n. IsSpan at n a b) {x = k + suc count} {y = k + 1 + count} (omega arith) is

      complete_by : (t : Bool) → at k ≡ t → Ahead i k a b → (Ahead k (k + 1) a b → IsIn (spans_from k (stops_by at (k + 1) count)) (a, b)) → (Ahead i (k + 1) a b → IsIn (spans_from i (stops_by at (k + 1) count)) (a, b)) → IsIn (spans_from i (cond t (k ∷ stops_by at (k + 1) count) (stops_by at (k + 1) count))) (a, b)
      complete_by true e (inl (same, l)) goes stays =
          elim (cases_lt k b) [
            | inl less ↦ absurd (both_ways (at k) (is.plain k (omega arith) less) e)
            | inr other ↦ let last : k ≡ b = omega arith in
                inl (ap (λ j. (j, k)) (sym same) ∙ ap (λ j. (a, j)) last)
          ]
      complete_by true e (inr l) goes stays =
          elim (cases_lt k a) [
            | inl less ↦ inr (goes (inr (omega arith)))
            | inr other ↦ inr (goes (inl (omega arith, omega (arith, is.rises))))
          ]
      complete_by false e (inl (same, l)) goes stays = stays (inl (same, past k b e is.ends l))
      complete_by false e (inr l) goes stays = stays (inr (past k a e is.begins l))

  pub complete : (count k a b : ℕ) → IsSpan at (k + count) a b → k ≤ a → IsIn (spans (stops_by at k count)) (a, b)
  complete zero k a b is h = absurd (omega (arith, is.inside, is.rises))
  complete (suc count) k a b is h =
      complete_by (at k) refl
      (λ next. complete_from count (k + 1) k a b (omega arith) moved next)
      (λ next. complete count (k + 1) a b moved next)
    where
      moved : IsSpan at (k + 1 + count) a b
      moved = subst (λ n. IsSpan at n a b) {x = k + suc count} {y = k + 1 + count} (omega arith) is

      complete_by : (t : Bool) → at k ≡ t → (Ahead k (k + 1) a b → IsIn (spans_from k (stops_by at (k + 1) count)) (a, b)) → (k + 1 ≤ a → IsIn (spans (stops_by at (k + 1) count)) (a, b)) → IsIn (spans (cond t (k ∷ stops_by at (k + 1) count) (stops_by at (k + 1) count))) (a, b)
      complete_by true e goes stays =
          elim (cases_lt k a) [
            | inl less ↦ goes (inr (omega arith))
            | inr other ↦ goes (inl (omega arith, omega (arith, is.rises)))
          ]
      complete_by false e goes stays = stays (past k a e is.begins h)
