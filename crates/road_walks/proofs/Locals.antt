-- Two base edges of one junction with one local index are equal.
use Rattle.std.proofs.Common.{◌≡◌, ℕ, ◌+◌, ◌<◌, refl, sym, ◌∙◌, ap, subst, List, [], ◌∷◌, length, get_or, ℤ, pos, Bool, true, false, cond, not, ◌&&◌, inl, inr, arith}
use Rattle.std.specs.Prelude.{◌⊎◌, Some, None, find, filter, nat_eq}
use Rattle.std.specs.List.{enumerate_from, position_or_len}
use Rattle.std.specs.Option.{option_map_or}
use Rattle.std.specs.Ordering.{int_eq}
use Rattle.std.specs.Cmp.{signed_Decides}
use Rattle.std.proofs.lemmas.Bool.{both_ways, and_parts, eqb-true, eq-eqb}
use Rattle.std.proofs.lemmas.List.Recursion.{is_position_or_len}
use Rattle.osm_model.specs.declared.ways.OsmWay.{OsmWay}
use Rattle.osm_model.specs.declared.extract.Extract.{Extract}
use Rattle.road_pieces.specs.DirectedPiece.{DirectedPiece}
use Rattle.road_pieces.specs.Runs.{way_runs, run, is_junction}
use Rattle.road_pieces.specs.Steps.{node}
use Rattle.road_pieces.specs.Rows.{stops, spans}
use Rattle.road_pieces.specs.Pieces.{IsPiece, piece_start}
use Rattle.road_pieces.proofs.Members.{IsIn, in_flat, in_numbered}
use Rattle.road_pieces.proofs.Spans.{IsSpan, stops_by, stops_are, complete}
use Rattle.road_pieces.proofs.Ends.{has_place, has_none}
use Rattle.road_walks.specs.BaseEdges.{run_pieces, way_pieces, directed_pieces, base_edges, is_same, local_index}

-- the place of an element, by recursion
abbrev place_of : {E : Type 0} → (E → Bool) → List E → ℕ
place_of test [] = 0
place_of test (e ∷ es) = cond (test e) 0 (1 + place_of test es)

is_place : {E : Type 0} (test : E → Bool) (es : List E) → place_of test es ≡ position_or_len test es
is_place test es = is_position_or_len (place_of test) test refl (λ e rest. refl) es

module _ {E : Type 0} (test : E → E → Bool) (itself : (e : E) → test e e ≡ true) (only : (e f : E) → test e f ≡ true → e ≡ f) where
  later : (e y : E) (es : List E) → test e y ≡ false → IsIn (y ∷ es) e → IsIn es e
  later e y es without (inl is) = absurd (both_ways (test e y) without (ap (test e) is ∙ itself e))
  later e y es without (inr h) = h

  one_place : (es : List E) (e f : E) → IsIn es e → IsIn es f → place_of (test e) es ≡ place_of (test f) es → e ≡ f
  one_place [] e f h k same = absurd h
  one_place (y ∷ es) e f h k same = by (test e y) (test f y) refl refl same (one_place es e f)
    where
      by : (a b : Bool) → test e y ≡ a → test f y ≡ b → cond a 0 (1 + place_of (test e) es) ≡ cond b 0 (1 + place_of (test f) es) → (IsIn es e → IsIn es f → place_of (test e) es ≡ place_of (test f) es → e ≡ f) → e ≡ f
      by true true p q eq rest = only e y p ∙ sym (only f y q)
      by true false p q eq rest = absurd (omega (arith, eq))
      by false true p q eq rest = absurd (omega (arith, eq))
      by false false p q eq rest = rest (later e y es p h) (later f y es q k) (omega (arith, eq))

pub in_filter : {E : Type 0} (test : E → Bool) (es : List E) (e : E) → IsIn es e → test e ≡ true → IsIn (filter test es) e
in_filter test [] e h passes = absurd h
in_filter test (y ∷ es) e h passes = by (test y) refl h (λ k. in_filter test es e k passes)
  where
    by : (b : Bool) → test y ≡ b → (y ≡ e) ⊎ IsIn es e → (IsIn es e → IsIn (filter test es) e) → IsIn (cond b (y ∷ filter test es) (filter test es)) e
    by true t (inl is) rest = inl is
    by true t (inr there) rest = inr (rest there)
    by false t (inl is) rest = absurd (both_ways (test y) t (ap test is ∙ passes))
    by false t (inr there) rest = rest there

-- a directed piece is the same as itself alone
pub and_both : (a b : Bool) → a ≡ true → b ≡ true → (a && b) ≡ true
and_both true b h k = k
and_both false b h k = absurd (both_ways false refl h)

same_way_round : (b : Bool) → cond b b (not b) ≡ true
same_way_round true = refl
same_way_round false = refl

one_way_round : (a b : Bool) → cond a b (not b) ≡ true → a ≡ b
one_way_round true b h = sym h
one_way_round false true h = h
one_way_round false false h = refl

pub same_itself : (p : DirectedPiece) → is_same p p ≡ true
same_itself p =
    and_both (int_eq p.way p.way) (nat_eq p.run p.run && (nat_eq p.from p.from && (nat_eq p.to p.to && cond p.forward p.forward (not p.forward)))) ((signed_Decides p.way p.way).1 refl)
    (and_both (nat_eq p.run p.run) (nat_eq p.from p.from && (nat_eq p.to p.to && cond p.forward p.forward (not p.forward))) (eq-eqb p.run p.run refl)
    (and_both (nat_eq p.from p.from) (nat_eq p.to p.to && cond p.forward p.forward (not p.forward)) (eq-eqb p.from p.from refl)
    (and_both (nat_eq p.to p.to) (cond p.forward p.forward (not p.forward)) (eq-eqb p.to p.to refl) (same_way_round p.forward))))

pub same_only : (p q : DirectedPiece) → is_same p q ≡ true → p ≡ q
same_only p q h =
    let (way, h1) = and_parts (int_eq p.way q.way) (nat_eq p.run q.run && (nat_eq p.from q.from && (nat_eq p.to q.to && cond p.forward q.forward (not q.forward)))) h in
    let (number, h2) = and_parts (nat_eq p.run q.run) (nat_eq p.from q.from && (nat_eq p.to q.to && cond p.forward q.forward (not q.forward))) h1 in
    let (from, h3) = and_parts (nat_eq p.from q.from) (nat_eq p.to q.to && cond p.forward q.forward (not q.forward)) h2 in
    let (to, round) = and_parts (nat_eq p.to q.to) (cond p.forward q.forward (not q.forward)) h3 in
    let e1 : p.way ≡ q.way = (signed_Decides p.way q.way).0 way in
    let e2 : p.run ≡ q.run = eqb-true p.run q.run number in
    let e3 : p.from ≡ q.from = eqb-true p.from q.from from in
    let e4 : p.to ≡ q.to = eqb-true p.to q.to to in
    let e5 : p.forward ≡ q.forward = one_way_round p.forward q.forward round in
    λ i. record { way = e1 i; run = e2 i; from = e3 i; to = e4 i; forward = e5 i }

-- each piece stands in the list of directed pieces
pub find_cases : (p : OsmWay → Bool) (ways : List OsmWay) → (find p ways ≡ None) ⊎ ((w : OsmWay) × (IsIn ways w × ((p w ≡ true) × (find p ways ≡ Some w))))
find_cases p [] = inl refl
find_cases p (w ∷ ways) = by (p w) refl (find_cases p ways)
  where
    by : (b : Bool) → p w ≡ b → (find p ways ≡ None) ⊎ ((v : OsmWay) × (IsIn ways v × ((p v ≡ true) × (find p ways ≡ Some v)))) → (cond b (Some w) (find p ways) ≡ None) ⊎ ((v : OsmWay) × (((w ≡ v) ⊎ IsIn ways v) × ((p v ≡ true) × (cond b (Some w) (find p ways) ≡ Some v))))
    by true e rest = inr (w, (inl refl, (e, refl)))
    by false e (inl without) = inl without
    by false e (inr (v, (is, (passes, found)))) = inr (v, (inr is, (passes, found)))

direction : (way : ℤ) (number from to : ℕ) (forward : Bool) → IsIn {E = DirectedPiece} (record { way = way; run = number; from = from; to = to; forward = true } ∷ (record { way = way; run = number; from = from; to = to; forward = false } ∷ [])) (record { way = way; run = number; from = from; to = to; forward = forward })
direction way number from to true = inl refl
direction way number from to false = inr (inl refl)

module _ (x : Extract) (p : DirectedPiece) (is : IsPiece x p) where
  abbrev its_run : List ℤ
  its_run = run x p.way p.run

  abbrev at : ℕ → Bool
  at k = is_junction x (node x p.way p.run k)

  its_stops : stops (is_junction x) 0 its_run ≡ stops_by at 0 (length its_run)
  its_stops = stops_are (is_junction x) (pos 0) at its_run 0 (λ i h. ap at {x = 0 + i} {y = i} (omega arith))

  in_spans : IsIn (spans (stops (is_junction x) 0 its_run)) (p.from, p.to)
  in_spans =
      subst (λ l. IsIn (spans l) (p.from, p.to)) (sym its_stops)
      (complete at (length its_run) 0 p.from p.to (subst (λ n. IsSpan at n p.from p.to) {x = length its_run} {y = 0 + length its_run} (omega arith) (record { rises = is.rises; inside = is.inside; begins = is.begins; ends = is.ends; plain = is.plain })) (omega arith))

  in_run : IsIn (run_pieces x p.way p.run its_run) p
  in_run =
      in_flat (λ (from, to). record { way = p.way; run = p.run; from = from; to = to; forward = true } ∷ (record { way = p.way; run = p.run; from = from; to = to; forward = false } ∷ [])) (spans (stops (is_junction x) 0 its_run)) (p.from, p.to) p in_spans (direction p.way p.run p.from p.to p.forward)

  some : 0 < length its_run
  some = omega (arith, is.inside, is.rises)

  in_way : (w : OsmWay) → IsIn x.ways w → w.id ≡ p.way → find (λ v. int_eq v.id p.way) x.ways ≡ Some w → IsIn (directed_pieces x) p
  in_way w there same found =
      let run_is : its_run ≡ get_or (way_runs x.nodes w) p.run [] =
      ap (λ o. get_or (option_map_or (way_runs x.nodes) o []) p.run []) found in
      let inside : p.run < length (way_runs x.nodes w) =
      has_place (way_runs x.nodes w) p.run (subst (λ r. 0 < length r) run_is some) in
      let numbered : IsIn (enumerate_from 0 (way_runs x.nodes w)) (p.run, its_run) =
      subst (λ r. IsIn (enumerate_from 0 (way_runs x.nodes w)) (p.run, r)) (sym run_is)
      (subst (λ n. IsIn (enumerate_from 0 (way_runs x.nodes w)) (n, get_or (way_runs x.nodes w) p.run [])) {x = 0 + p.run} {y = p.run} (omega arith) (in_numbered 0 (way_runs x.nodes w) p.run [] inside)) in
      in_flat (way_pieces x) x.ways w p there
      (in_flat (λ (number, r). run_pieces x w.id number r) (enumerate_from 0 (way_runs x.nodes w)) (p.run, its_run) p numbered (subst (λ id. IsIn (run_pieces x id p.run its_run) p) (sym same) in_run))

  pub in_directed : IsIn (directed_pieces x) p
  in_directed =
      elim (find_cases (λ v. int_eq v.id p.way) x.ways) [
        | inl without ↦ absurd (has_none p.run (subst (λ o. 0 < length (get_or (option_map_or (way_runs x.nodes) o []) p.run [])) without some))
        | inr found ↦ let (w, (there, (passes, e))) = found in in_way w there ((signed_Decides w.id p.way).0 passes) e
      ]

  pub in_base : (n : ℤ) → piece_start x p ≡ n → IsIn (base_edges x n) p
  in_base n begins =
      in_filter (λ q. int_eq (piece_start x q) n) (directed_pieces x) p in_directed ((signed_Decides (piece_start x p) n).1 begins)

pub own : (x : Extract) (e f : DirectedPiece) → IsPiece x e → IsPiece x f → piece_start x e ≡ piece_start x f → local_index x e ≡ local_index x f → e ≡ f
own x e f is_e is_f begins same =
    let n : ℤ = piece_start x f in
    let at_e : place_of (is_same e) (base_edges x n) ≡ local_index x e =
    is_place (is_same e) (base_edges x n) ∙ ap (λ m. position_or_len (is_same e) (base_edges x m)) (sym begins) in
    one_place is_same same_itself same_only (base_edges x n) e f (in_base x e is_e n begins) (in_base x f is_f n refl)
    (at_e ∙ (same ∙ sym (is_place (is_same f) (base_edges x n))))
