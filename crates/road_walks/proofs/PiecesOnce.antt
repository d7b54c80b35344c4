-- The list of directed pieces has each once.
use Rattle.std.proofs.Common.{◌≡◌, ℕ, suc, ◌+◌, ◌<◌, refl, sym, ◌∙◌, ap, List, [], ◌∷◌, length, get_or, ℤ, Bool, true, false, cond, inl, inr, arith}
use Rattle.std.specs.Prelude.{⊤, ◌⊎◌, ◌≢◌, ◌<ℤ◌}
use Rattle.std.specs.List.{flat_map, enumerate_from}
use Rattle.std.proofs.lemmas.Int.{ints}
use Rattle.osm_model.specs.declared.ways.OsmWay.{OsmWay}
use Rattle.osm_model.specs.declared.extract.Extract.{Extract}
use Rattle.road_pieces.specs.DirectedPiece.{DirectedPiece}
use Rattle.road_pieces.specs.Runs.{way_runs, is_junction}
use Rattle.road_pieces.specs.Rows.{stops, spans, spans_from}
use Rattle.road_pieces.proofs.Members.{IsIn, IsAt, at_in, of_flat, of_numbered, in_from_among}
use Rattle.road_walks.specs.BaseEdges.{run_pieces, way_pieces, directed_pieces}
use Rattle.road_pieces.specs.Among.{Once}
use Rattle.road_walks.proofs.Sorted.{once_append}

-- the keys of the elements differ
abbrev OnceBy : {A K : Type 0} → (A → K) → List A → Type 0
OnceBy part [] = ⊤
OnceBy part (a ∷ es) = ((b : _) → IsIn es b → part a ≢ part b) × OnceBy part es

-- parts that are told apart by a key of their elements, where the keys of the parts differ
once_flat : {A E K : Type 0} (f : A → List E) (part : A → K) (key : E → K) (es : List A) → ((a : A) (e : E) → IsIn (f a) e → key e ≡ part a) → ((a : A) → Once (f a)) → OnceBy part es → Once (flat_map f es)
once_flat f part key [] tells each once = tt
once_flat f part key (a ∷ es) tells each once =
    once_append (f a) (flat_map f es) (each a) (once_flat f part key es tells each once.1)
    (λ e h k. let (b, (there, inside)) = of_flat f es e (in_from_among (flat_map f es) e k) in
    once.0 b there (sym (tells a e (in_from_among (f a) e h)) ∙ tells b e inside))

numbered_once : {A : Type 0} (n : ℕ) (xs : List A) → OnceBy (λ e. e.0) (enumerate_from n xs)
numbered_once n [] = tt
numbered_once n (x ∷ xs) =
    (λ b h same. let at : IsAt (n + 1) xs b.0 b.1 = of_numbered (n + 1) xs b h in let is = at.number_is in omega (arith, same, is), numbered_once (n + 1) xs)

ways_once : (ways : List OsmWay) → ((i j : ℕ) (d : OsmWay) → i < j → j < length ways → (get_or ways i d).id <ℤ (get_or ways j d).id) → OnceBy (λ w. w.id) ways
ways_once [] rise = tt
ways_once (w ∷ ways) rise = (
  λ v h same. let (k, (inside, at)) = at_in ways v h in
      let less : w.id <ℤ (get_or ways k w).id = rise 0 (suc k) w (omega arith) (omega (arith, inside)) in
      let is : (get_or ways k w).id ≡ v.id = ap (λ u. u.id) (at w) in
      absurd (omega (arith, ints, less, is, same)),
  ways_once ways (λ i j d h k. rise (suc i) (suc j) d (omega (arith, h)) (omega (arith, k))),
)

above_all : (test : ℤ → Bool) (k : ℕ) (r : List ℤ) (j : ℕ) → IsIn (stops test k r) j → k < j + 1
above_all test k [] j h = absurd h
above_all test k (n ∷ r) j h = by (test n) h (above_all test (k + 1) r j)
  where
    by : (b : Bool) → IsIn (cond b (k ∷ stops test (k + 1) r) (stops test (k + 1) r)) j → (IsIn (stops test (k + 1) r) j → k + 1 < j + 1) → k < j + 1
    by true (inl is) rest = omega (arith, is)
    by true (inr h) rest = let l = rest h in omega (arith, l)
    by false h rest = let l = rest h in omega (arith, l)

-- rising, by what comes after each
abbrev Climbs : List ℕ → Type 0
Climbs [] = ⊤
Climbs (i ∷ is) = ((j : ℕ) → IsIn is j → i < j) × Climbs is

stops_climb : (test : ℤ → Bool) (k : ℕ) (r : List ℤ) → Climbs (stops test k r)
stops_climb test k [] = tt
stops_climb test k (n ∷ r) = by (test n) (stops_climb test (k + 1) r)
  where
    by : (b : Bool) → Climbs (stops test (k + 1) r) → Climbs (cond b (k ∷ stops test (k + 1) r) (stops test (k + 1) r))
    by true rest = ((λ j h. let l = above_all test (k + 1) r j h in omega (arith, l)), rest)
    by false rest = rest

from_in_spans : (i : ℕ) (is : List ℕ) (e : ℕ × ℕ) → IsIn (spans_from i is) e → (e.0 ≡ i) ⊎ IsIn is e.0
from_in_spans i [] e h = absurd h
from_in_spans i (j ∷ js) e (inl is) = inl (sym (ap (λ p. p.0) is))
from_in_spans i (j ∷ js) e (inr h) = inr (elim (from_in_spans j js e h) [ inl is ↦ inl (sym is) | inr there ↦ inr there ])

spans_once : (i : ℕ) (is : List ℕ) → Climbs (i ∷ is) → OnceBy (λ e. e.0) (spans_from i is)
spans_once i [] climbs = tt
spans_once i (j ∷ js) climbs = (
  λ e h same. elim (from_in_spans j js e h) [
    | inl is ↦ let l = climbs.0 j (inl refl) in omega (arith, l, is, same)
    | inr there ↦ let l = climbs.0 e.0 (inr there) in omega (arith, l, same)
  ],
  spans_once j js climbs.1,
)

all_spans_once : (is : List ℕ) → Climbs is → OnceBy (λ e. e.0) (spans is)
all_spans_once [] climbs = tt
all_spans_once (i ∷ is) climbs = spans_once i is climbs

module _ (x : Extract) where
  abbrev both : ℤ → ℕ → ℕ × ℕ → List DirectedPiece
  both way number (from, to) = record { way = way; run = number; from = from; to = to; forward = true } ∷ (record { way = way; run = number; from = from; to = to; forward = false } ∷ [])

  differ : (way : ℤ) (number : ℕ) (e : ℕ × ℕ) → Once (both way number e)
  differ way number (from, to) = (λ h. elim h [ inl is ↦ Rattle.std.proofs.lemmas.Bool.both_ways false refl (ap (λ p. p.forward) is) | inr k ↦ k ], ((λ h. h), tt))

  from_is : (way : ℤ) (number : ℕ) (e : ℕ × ℕ) (p : DirectedPiece) → IsIn (both way number e) p → (p.from ≡ e.0) × ((p.run ≡ number) × (p.way ≡ way))
  from_is way number (from, to) p (inl is) = (ap (λ q. q.from) (sym is), (ap (λ q. q.run) (sym is), ap (λ q. q.way) (sym is)))
  from_is way number (from, to) p (inr (inl is)) = (ap (λ q. q.from) (sym is), (ap (λ q. q.run) (sym is), ap (λ q. q.way) (sym is)))
  from_is way number (from, to) p (inr (inr h)) = absurd h

  run_once : (way : ℤ) (number : ℕ) (r : List ℤ) → Once (run_pieces x way number r)
  run_once way number r =
      once_flat (both way number) (λ e. e.0) (λ p. p.from) (spans (stops (is_junction x) 0 r)) (λ e p h. (from_is way number e p h).0) (differ way number) (all_spans_once (stops (is_junction x) 0 r) (stops_climb (is_junction x) 0 r))

  of_run : (way : ℤ) (number : ℕ) (r : List ℤ) (p : DirectedPiece) → IsIn (run_pieces x way number r) p → (p.run ≡ number) × (p.way ≡ way)
  of_run way number r p h = let (e, (there, inside)) = of_flat (both way number) (spans (stops (is_junction x) 0 r)) p h in (from_is way number e p inside).1

  way_once : (w : OsmWay) → Once (way_pieces x w)
  way_once w =
      once_flat (λ (number, r). run_pieces x w.id number r) (λ e. e.0) (λ p. p.run) (enumerate_from 0 (way_runs x.nodes w)) (λ (number, r) p h. (of_run w.id number r p h).0) (λ (number, r). run_once w.id number r) (numbered_once 0 (way_runs x.nodes w))

  of_way : (w : OsmWay) (p : DirectedPiece) → IsIn (way_pieces x w) p → p.way ≡ w.id
  of_way w p h = let ((number, r), (there, inside)) = of_flat (λ (number, r). run_pieces x w.id number r) (enumerate_from 0 (way_runs x.nodes w)) p h in (of_run w.id number r p inside).1

  pub pieces_once : Once (directed_pieces x)
  pieces_once = once_flat (way_pieces x) (λ w. w.id) (λ p. p.way) x.ways of_way way_once (ways_once x.ways x.ways_rise)
