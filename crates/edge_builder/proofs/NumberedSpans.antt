-- The spans of a list of stops are numbered as the stops where they begin.
use Rattle.std.proofs.Common.{◌≡◌, ℕ, zero, suc, ◌+◌, ◌<◌, ◌≤◌, refl, sym, ◌∙◌, ap, List, [], ◌∷◌, length, get_or, Bool, true, false, cond, nat_eq, arith, eq-eqb, eqb-true}
use Rattle.std.specs.List.{enumerate_from, position_or_len}
use Rattle.std.proofs.lemmas.Bool.{false_from_ne_true}
use Rattle.std.proofs.lemmas.List.Sums.{position_or_len_is}
use Rattle.road_pieces.specs.Rows.{stops, spans, spans_from}
use Rattle.road_pieces.proofs.Members.{IsIn, IsAt, of_numbered}

stops_from : {A : Type 0} (test : A → Bool) (k : ℕ) (xs : List A) (j d : ℕ) → j < length (stops test k xs) → k ≤ get_or (stops test k xs) j d
stops_from test k [] j d h = absurd (omega (arith, h))
stops_from test k (x ∷ xs) j d h = by (test x) j h (stops_from test (k + 1) xs)
  where
    by : (b : Bool) (m : ℕ) → m < length (cond b (k ∷ stops test (k + 1) xs) (stops test (k + 1) xs)) → ((n e : ℕ) → n < length (stops test (k + 1) xs) → k + 1 ≤ get_or (stops test (k + 1) xs) n e) → k ≤ get_or (cond b (k ∷ stops test (k + 1) xs) (stops test (k + 1) xs)) m d
    by true zero l rest = omega arith
    by true (suc m) l rest = let r = rest m d (omega (arith, l)) in omega (arith, r)
    by false m l rest = let r = rest m d l in omega (arith, r)

stops_rise : {A : Type 0} (test : A → Bool) (k : ℕ) (xs : List A) (i j d : ℕ) → i < j → j < length (stops test k xs) → get_or (stops test k xs) i d < get_or (stops test k xs) j d
stops_rise test k [] i j d h l = absurd (omega (arith, l))
stops_rise test k (x ∷ xs) i j d h l = by (test x) i j h l (stops_rise test (k + 1) xs)
  where
    by : (b : Bool) (m n : ℕ) → m < n → n < length (cond b (k ∷ stops test (k + 1) xs) (stops test (k + 1) xs)) → ((m n e : ℕ) → m < n → n < length (stops test (k + 1) xs) → get_or (stops test (k + 1) xs) m e < get_or (stops test (k + 1) xs) n e) → get_or (cond b (k ∷ stops test (k + 1) xs) (stops test (k + 1) xs)) m d < get_or (cond b (k ∷ stops test (k + 1) xs) (stops test (k + 1) xs)) n d
    by true m zero less low rest = absurd (omega (arith, less))
    by true zero (suc n) less low rest = let r = stops_from test (k + 1) xs n d (omega (arith, low)) in omega (arith, r)
    by true (suc m) (suc n) less low rest = rest m n d (omega (arith, less)) (omega (arith, low))
    by false m n less low rest = rest m n d less low

begins_from : (i : ℕ) (js : List ℕ) (k : ℕ) (d : ℕ × ℕ) → k < length (spans_from i js) → ((get_or (spans_from i js) k d).0 ≡ get_or (i ∷ js) k 0) × (k < length (i ∷ js))
begins_from i [] k d h = absurd (omega (arith, h))
begins_from i (j ∷ js) zero d h = (refl, omega arith)
begins_from i (j ∷ js) (suc k) d h = let (at, low) = begins_from j js k d (omega (arith, h)) in (at, omega (arith, low))

span_begins : (is : List ℕ) (k : ℕ) (d : ℕ × ℕ) → k < length (spans is) → ((get_or (spans is) k d).0 ≡ get_or is k 0) × (k < length is)
span_begins [] k d h = absurd (omega (arith, h))
span_begins (i ∷ is) k d h = begins_from i is k d h

-- the place of the stop where a span begins is its number
pub span_number : {A : Type 0} (test : A → Bool) (xs : List A) (k : ℕ) (s : ℕ × ℕ) → IsIn (enumerate_from 0 (spans (stops test 0 xs))) (k, s) → position_or_len (nat_eq s.0) (stops test 0 xs) ≡ k
span_number test xs k s h =
    let its : List ℕ = stops test 0 xs in
    let at : IsAt 0 (spans its) k s = of_numbered 0 (spans its) (k, s) h in
    let (begins, low) = span_begins its at.place s at.inside in
    let from : s.0 ≡ get_or its at.place 0 = sym (ap (λ e. e.0) (at.is s)) ∙ begins in
    let number : at.place ≡ k = omega (arith, at.number_is) in
    position_or_len_is (nat_eq s.0) its at.place 0 (omega (arith, low))
    (λ j l. false_from_ne_true (nat_eq s.0 (get_or its j 0)) (λ e. let same = eqb-true s.0 (get_or its j 0) e in let less = stops_rise test 0 xs j at.place 0 l low in absurd (omega (arith, same, from, less))))
    (λ l. eq-eqb s.0 (get_or its at.place 0) from)
    ∙ number
