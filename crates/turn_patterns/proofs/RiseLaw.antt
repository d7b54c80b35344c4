-- Directed pieces are listed in order of way, run and place, forward first.
use Rattle.std.proofs.Common.{◌≡◌, refl, sym, ◌∙◌, ap, subst, List, [], ◌∷◌, ℕ, ℤ, suc, ◌+◌, ◌<◌, ◌≤◌, Bool, true, false, cond, inl, inr, arith}
use Rattle.std.specs.Prelude.{◌<ℤ◌, AllPairs}
use Rattle.std.specs.List.{Contains, enumerate_from}
use Rattle.std.specs.Ordering.{int_eq}
use Rattle.osm_model.specs.declared.ways.OsmWay.{OsmWay}
use Rattle.osm_model.specs.declared.extract.Extract.{Extract}
use Rattle.road_pieces.specs.DirectedPiece.{DirectedPiece}
use Rattle.road_pieces.specs.Pieces.{piece_start, piece_end}
use Rattle.road_pieces.specs.Rows.{stops, spans, spans_from}
use Rattle.road_pieces.specs.Runs.{way_runs, is_junction}
use Rattle.road_walks.specs.BaseEdges.{run_pieces, way_pieces, directed_pieces}
use Rattle.pattern_search.specs.Words.{Includes, Rising}
use Rattle.pattern_search.proofs.Inclusion.{among_filter, among_unfilter, among_unflat, rising_filter, rising_flat}
use Rattle.turn_patterns.specs.Found.{ComesBefore}
use Rattle.turn_patterns.specs.PiecesRise.{PiecesRise, FirstsTellPieces}
use Rattle.turn_patterns.specs.RowTests.{is_among}
use Rattle.turn_patterns.proofs.FoundLaw.{contains}
use Rattle.turn_patterns.proofs.RowTestLaw.{among_is, from_among, to_among}
use Rattle.road_walks.specs.Listed.{PiecesListed}

-- pairs by their places are pairs one after the other
pub rising_pairs : {E : Type 0} (Less : E → E → Type 0) (xs : List E) → AllPairs Less xs → Rising Less xs
rising_pairs Less [] pairs = tt
rising_pairs Less (x ∷ xs) pairs = (
  λ f there.
      let at : Contains xs f = contains xs f there in
      subst (Less x) at.2 (pairs 0 (suc at.0) f (omega arith) (omega (arith, at.1))),
  rising_pairs Less xs (λ i j d low high. pairs (suc i) (suc j) d (omega (arith, low)) (omega (arith, high))),
)

-- numbers of an enumeration
number_low : {E : Type 0} (k : ℕ) (xs : List E) (e : ℕ × E) → Includes (enumerate_from k xs) e → k ≤ e.0
number_low k [] e h = absurd h
number_low k (x ∷ xs) e (inl is) = omega (arith, ap (λ f. f.0) is)
number_low k (x ∷ xs) e (inr h) = let low : k + 1 ≤ e.0 = number_low (k + 1) xs e h in omega (arith, low)

numbers_rise : {E : Type 0} (k : ℕ) (xs : List E) → Rising {E = ℕ × E} (λ e f. e.0 < f.0) (enumerate_from k xs)
numbers_rise k [] = tt
numbers_rise k (x ∷ xs) = (λ f there. let low : k + 1 ≤ f.0 = number_low (k + 1) xs f there in omega (arith, low), numbers_rise (k + 1) xs)

-- places of junctions
stop_low : (test : ℤ → Bool) (k : ℕ) (ns : List ℤ) (i : ℕ) → Includes (stops test k ns) i → k ≤ i
stop_low test k [] i h = absurd h
stop_low test k (n ∷ ns) i h = by (test n) h (stop_low test (k + 1) ns i)
  where
    by : (b : Bool) → Includes (cond b (k ∷ stops test (k + 1) ns) (stops test (k + 1) ns)) i → (Includes (stops test (k + 1) ns) i → k + 1 ≤ i) → k ≤ i
    by true (inl is) rest = omega (arith, is)
    by true (inr there) rest = let low = rest there in omega (arith, low)
    by false there rest = let low = rest there in omega (arith, low)

stops_rise : (test : ℤ → Bool) (k : ℕ) (ns : List ℤ) → Rising (λ i j. i < j) (stops test k ns)
stops_rise test k [] = tt
stops_rise test k (n ∷ ns) = by (test n) (stops_rise test (k + 1) ns)
  where
    by : (b : Bool) → Rising (λ i j. i < j) (stops test (k + 1) ns) → Rising (λ i j. i < j) (cond b (k ∷ stops test (k + 1) ns) (stops test (k + 1) ns))
    by true rest = (λ j there. let low : k + 1 ≤ j = stop_low test (k + 1) ns j there in omega (arith, low), rest)
    by false rest = rest

-- spans between them
span_low : (i : ℕ) (js : List ℕ) → Rising (λ a b. a < b) (i ∷ js) → (s : ℕ × ℕ) → Includes (spans_from i js) s → i ≤ s.0
span_low i [] rises s h = absurd h
span_low i (j ∷ js) rises s (inl is) = omega (arith, ap (λ f. f.0) is)
span_low i (j ∷ js) rises s (inr h) =
    let low : j ≤ s.0 = span_low j js rises.1 s h in
    let first : i < j = rises.0 j (inl refl) in
    omega (arith, low, first)

spans_from_rise : (i : ℕ) (js : List ℕ) → Rising (λ a b. a < b) (i ∷ js) → Rising {E = ℕ × ℕ} (λ s t. s.0 < t.0) (spans_from i js)
spans_from_rise i [] rises = tt
spans_from_rise i (j ∷ js) rises = (
  λ s there.
      let low : j ≤ s.0 = span_low j js rises.1 s there in
      let first : i < j = rises.0 j (inl refl) in
      omega (arith, low, first),
  spans_from_rise j js rises.1,
)

spans_rise : (is : List ℕ) → Rising (λ a b. a < b) is → Rising {E = ℕ × ℕ} (λ s t. s.0 < t.0) (spans is)
spans_rise [] rises = tt
spans_rise (i ∷ is) rises = spans_from_rise i is rises

-- both directions of one span
abbrev both : ℤ → ℕ → ℕ × ℕ → List DirectedPiece
both way number (from, to) = record { way = way; run = number; from = from; to = to; forward = true } ∷ (record { way = way; run = number; from = from; to = to; forward = false } ∷ [])

both_of : (way : ℤ) (number : ℕ) (s : ℕ × ℕ) (p : DirectedPiece) → Includes (both way number s) p → (way ≡ p.way) × (number ≡ p.run) × (s.0 ≡ p.from)
both_of way number s p (inl is) = (ap (λ q. q.way) is, ap (λ q. q.run) is, ap (λ q. q.from) is)
both_of way number s p (inr (inl is)) = (ap (λ q. q.way) is, ap (λ q. q.run) is, ap (λ q. q.from) is)
both_of way number s p (inr (inr h)) = absurd h

both_rise : (way : ℤ) (number : ℕ) (s : ℕ × ℕ) → Rising ComesBefore (both way number s)
both_rise way number s = (λ q there. behind q there, (λ q h. absurd h, tt))
  where
    forward : DirectedPiece
    forward = record { way = way; run = number; from = s.0; to = s.1; forward = true }

    behind : (q : DirectedPiece) → Includes (record { way = way; run = number; from = s.0; to = s.1; forward = false } ∷ []) q → ComesBefore forward q
    behind q (inl is) = subst (ComesBefore forward) is (inr (refl, inr (refl, inr (refl, refl, refl, refl))))
    behind q (inr h) = absurd h

module _ (x : Extract) where
  its_spans : List ℤ → List (ℕ × ℕ)
  its_spans run = spans (stops (is_junction x) 0 run)

  run_of : (way : ℤ) (number : ℕ) (run : List ℤ) (p : DirectedPiece) → Includes (run_pieces x way number run) p → (way ≡ p.way) × (number ≡ p.run)
  run_of way number run p h =
      let found = among_unflat (both way number) (spans (stops (is_junction x) 0 run)) p h in
      let its = both_of way number found.0 p found.1.1 in
      (its.0, its.1)

  run_rises : (way : ℤ) (number : ℕ) (run : List ℤ) → Rising ComesBefore (run_pieces x way number run)
  run_rises way number run =
      rising_flat (λ s t. s.0 < t.0) ComesBefore (both way number) (spans (stops (is_junction x) 0 run)) (spans_rise (stops (is_junction x) 0 run) (stops_rise (is_junction x) 0 run)) (both_rise way number) (λ s t low p q h k.
      let one = both_of way number s p h in
      let other = both_of way number t q k in
      inr (sym one.0 ∙ other.0, inr (sym one.1 ∙ other.1, inl (omega (arith, one.2, other.2, low)))))

  abbrev numbered : OsmWay → ℕ × List ℤ → List DirectedPiece
  numbered way (number, run) = run_pieces x way.id number run

  way_of : (way : OsmWay) (p : DirectedPiece) → Includes (way_pieces x way) p → way.id ≡ p.way
  way_of way p h =
      let found = among_unflat (numbered way) (enumerate_from 0 (way_runs x.nodes way)) p h in
      (run_of way.id found.0.0 found.0.1 p found.1.1).0

  way_rises : (way : OsmWay) → Rising ComesBefore (way_pieces x way)
  way_rises way =
      rising_flat (λ e f. e.0 < f.0) ComesBefore (numbered way) (enumerate_from 0 (way_runs x.nodes way)) (numbers_rise 0 (way_runs x.nodes way)) (λ e. run_rises way.id e.0 e.1) (λ e f low p q h k.
      let one = run_of way.id e.0 e.1 p h in
      let other = run_of way.id f.0 f.1 q k in
      inr (sym one.0 ∙ other.0, inl (omega (arith, one.1, other.1, low))))

  pub all_rise : Rising ComesBefore (directed_pieces x)
  all_rise =
      rising_flat (λ v w. v.id <ℤ w.id) ComesBefore (way_pieces x) x.ways (rising_pairs (λ v w. v.id <ℤ w.id) x.ways x.ways_rise) way_rises (λ v w low p q h k.
      inl (subst (λ i. i <ℤ q.way) (way_of v p h) (subst (λ i. v.id <ℤ i) (way_of w q k) low)))

pub pieces_rise : PiecesRise
pieces_rise x = (all_rise x, λ p. rising_filter ComesBefore (λ q. int_eq (piece_start x q) (piece_end x p)) (directed_pieces x) (all_rise x))

pub firsts_are : PiecesListed → FirstsTellPieces
firsts_are listed x from = (
  λ p. (
    λ h. let found = among_unfilter (λ q. is_among from q.way) (directed_pieces x) p h in
        (((listed x).0 p).0 (to_among (directed_pieces x) p found.0), (among_is from p.way).0 found.1),
    λ both. among_filter (λ q. is_among from q.way) (directed_pieces x) p (from_among (directed_pieces x) p (((listed x).0 p).1 both.0)) ((among_is from p.way).1 both.1),
  ),
  rising_filter ComesBefore (λ q. is_among from q.way) (directed_pieces x) (all_rise x),
)
