-- The list of pieces, row by row: each row is a piece of the roads with the same ends and length, and each piece
-- of the roads has a row. Nothing here is about who may use a road.
use Rattle.std.proofs.Common.{◌≡◌, ℕ, suc, ◌+◌, ◌-◌, ◌<◌, ◌≤◌, refl, sym, ◌∙◌, ap, subst, List, [], ◌∷◌, length, map, get_or, ℤ, pos, Bool, true, false, cond, inl, inr, arith}
use Rattle.std.specs.Prelude.{◌<ℤ◌, ◌⊎◌, ◌||◌, ◌&&◌, Some, None, find, nat_le, slice_get, sum_by}
use Rattle.std.specs.List.{list_any, dedup, enumerate_from}
use Rattle.std.specs.Option.{option_map_or}
use Rattle.std.specs.Ordering.{int_eq}
use Rattle.std.specs.Cmp.{signed_Decides}
use Rattle.std.proofs.lemmas.Bool.{cases_Bool, cases_lt, or_cases, both_ways, leb-true, and_parts, cond-false}
use Rattle.std.proofs.lemmas.Option.{slice_get-get_or}
use Rattle.std.proofs.lemmas.List.Elements.{filter_passes}
use Rattle.std.proofs.lemmas.List.Folds.{find_at}
use Rattle.std.proofs.lemmas.List.Sums.{position_or_len_is, sum_by-cons}
use Rattle.osm_model.specs.declared.nodes.OsmNode.{OsmNode}
use Rattle.osm_model.specs.declared.ways.OsmWay.{OsmWay}
use Rattle.osm_model.specs.declared.extract.Extract.{Extract}
use Rattle.road_pieces.specs.declared.rows.Piece.{Piece}
use Rattle.road_pieces.specs.DirectedPiece.{DirectedPiece}
use Rattle.road_pieces.specs.Rules.{is_routable}
use Rattle.road_pieces.specs.Runs.{has_node, stretches, runs, way_runs, all_runs, run, is_first, is_last, is_end, times, has_barrier, is_junction}
use Rattle.road_pieces.specs.Steps.{node}
use Rattle.road_pieces.specs.Pieces.{IsPiece, piece_start}
use Rattle.road_pieces.specs.Rows.{stops, spans, piece_row, run_rows, way_rows, piece_rows}
use Rattle.road_pieces.proofs.NodePlaces.{below_differs}
use Rattle.road_pieces.proofs.Ends.{has_place, has_none}
use Rattle.road_pieces.proofs.MarkLemmas.{first_once, last_once, times-cons}
use Rattle.road_pieces.proofs.Nearest.{piece_ahead, piece_back}
use Rattle.road_pieces.proofs.Members.{IsIn, IsAt, in_at, at_in, in_flat, of_flat, in_map, of_map, in_numbered, of_numbered}
use Rattle.road_pieces.proofs.Spans.{IsSpan, stops_by, stops_are, sound, complete}
use Rattle.road_pieces.proofs.RowLengths.{up_cm, course_cm_is}

-- the way with an id is the only one, since ways are in order of id
pub found_way : (x : Extract) (w : OsmWay) → IsIn x.ways w → find (λ v. int_eq v.id w.id) x.ways ≡ Some w
found_way x w h =
    let (k, (inside, is)) = at_in x.ways w h in
    let place = position_or_len_is (λ v. int_eq v.id w.id) x.ways k w (omega arith)
    (λ j l. below_differs (get_or x.ways j w).id w.id (subst (λ v. (get_or x.ways j w).id <ℤ v.id) (is w) (x.ways_rise j k w l inside)))
    (λ l. (signed_Decides (get_or x.ways k w).id w.id).1 (ap (λ v. v.id) (is w))) in
    find_at (λ v. int_eq v.id w.id) x.ways ∙ (ap (slice_get x.ways) place ∙ (slice_get-get_or x.ways k w inside ∙ ap Some (is w)))

run_is : (x : Extract) (w : OsmWay) (number : ℕ) → IsIn x.ways w → run x w.id number ≡ get_or (way_runs x.nodes w) number []
run_is x w number h =
    ap (λ o. get_or (option_map_or (way_runs x.nodes) o []) number []) (found_way x w h)

-- a run that isn't empty is one of a way
pub record IsOf (x : Extract) (id : ℤ) (number : ℕ) : Type 0 where
  pub way : OsmWay
  pub there : IsIn x.ways way
  pub same_id : way.id ≡ id
  pub inside : number < length (way_runs x.nodes way)

find_cases : (p : OsmWay → Bool) (ways : List OsmWay) → (find p ways ≡ None) ⊎ ((w : OsmWay) × (IsIn ways w × ((p w ≡ true) × (find p ways ≡ Some w))))
find_cases p [] = inl refl
find_cases p (w ∷ ways) = by (p w) refl (find_cases p ways)
  where
    by : (b : Bool) → p w ≡ b → (find p ways ≡ None) ⊎ ((v : OsmWay) × (IsIn ways v × ((p v ≡ true) × (find p ways ≡ Some v)))) → (cond b (Some w) (find p ways) ≡ None) ⊎ ((v : OsmWay) × (((w ≡ v) ⊎ IsIn ways v) × ((p v ≡ true) × (cond b (Some w) (find p ways) ≡ Some v))))
    by true e rest = inr (w, (inl refl, (e, refl)))
    by false e (inl without) = inl without
    by false e (inr (v, (is, (passes, found)))) = inr (v, (inr is, (passes, found)))

pub is_of : (x : Extract) (id : ℤ) (number : ℕ) → 0 < length (run x id number) → IsOf x id number
is_of x id number some =
    elim (find_cases (λ v. int_eq v.id id) x.ways) [
      | inl without ↦ absurd (has_none number (subst (λ o. 0 < length (get_or (option_map_or (way_runs x.nodes) o []) number [])) without some))
      | inr found ↦ let (w, (is, (passes, e))) = found in
          record {
            way = w;
            there = is;
            same_id = (signed_Decides w.id id).0 passes;
            inside = has_place (way_runs x.nodes w) number (subst (λ o. 0 < length (get_or (option_map_or (way_runs x.nodes) o []) number [])) e some);
          }
    ]

abbrev at : Extract → ℤ → ℕ → ℕ → Bool
at x way number k = is_junction x (node x way number k)

-- an interval of a run between two successive junctions, and a row with its ends and length
pub record IsRow (x : Extract) (row : Piece) (way : ℤ) (number from to : ℕ) : Type 0 where
  pub span : IsSpan (at x way number) (length (run x way number)) from to
  pub start : row.start ≡ node x way number from
  pub end : row.end ≡ node x way number to
  pub cm : row.cm ≡ up_cm x way number from (to - from)

pub piece_of_row : (x : Extract) (row : Piece) (way : ℤ) (number from to : ℕ) (forward : Bool) → IsRow x row way number from to → IsPiece x (record { way = way; run = number; from = from; to = to; forward = forward })
piece_of_row x row way number from to forward is = record {
  rises = is.span.rises;
  inside = is.span.inside;
  begins = is.span.begins;
  ends = is.span.ends;
  plain = is.span.plain;
}

-- the rows of a run
module _ (x : Extract) (w : OsmWay) (number : ℕ) where
  abbrev its_nodes : List ℤ
  its_nodes = run x w.id number

  abbrev row_of : ℕ × (ℕ × ℕ) → Piece
  row_of (piece, (from, to)) = piece_row x w number its_nodes piece from to

  its_stops : stops (is_junction x) 0 its_nodes ≡ stops_by (at x w.id number) 0 (length its_nodes)
  its_stops = stops_are (is_junction x) (pos 0) (at x w.id number) its_nodes 0 (λ i h. ap (at x w.id number) {x = 0 + i} {y = i} (omega arith))

  is_row : (piece from to : ℕ) → IsSpan (at x w.id number) (length its_nodes) from to → IsRow x (row_of (piece, (from, to))) w.id number from to
  is_row piece from to span =
      record { span = span; start = refl; end = refl; cm = course_cm_is x w.id number from to span.rises span.inside }

  row_sound : (row : Piece) → IsIn (run_rows x w number its_nodes) row → (from : ℕ) × ((to : ℕ) × IsRow x row w.id number from to)
  row_sound row h =
      let (e, (numbered, same)) = of_map row_of (enumerate_from 0 (spans (stops (is_junction x) 0 its_nodes))) row h in
      let place : IsAt 0 (spans (stops (is_junction x) 0 its_nodes)) e.0 e.1 = of_numbered 0 (spans (stops (is_junction x) 0 its_nodes)) e numbered in
      let in_spans : IsIn (spans (stops (is_junction x) 0 its_nodes)) e.1 = in_at (spans (stops (is_junction x) 0 its_nodes)) place.place e.1 e.1 place.inside (place.is e.1) in
      let span : IsSpan (at x w.id number) (0 + length its_nodes) e.1.0 e.1.1 = sound (at x w.id number) (length its_nodes) 0 e.1.0 e.1.1 (subst (λ l. IsIn (spans l) e.1) its_stops in_spans) in
      (e.1.0, (e.1.1, subst (λ r. IsRow x r w.id number e.1.0 e.1.1) same (is_row e.0 e.1.0 e.1.1 (subst (λ n. IsSpan (at x w.id number) n e.1.0 e.1.1) {x = 0 + length its_nodes} {y = length its_nodes} (omega arith) span))))

  row_complete : (from to : ℕ) → IsSpan (at x w.id number) (length its_nodes) from to → (row : Piece) × (IsIn (run_rows x w number its_nodes) row × IsRow x row w.id number from to)
  row_complete from to span =
      let all : List (ℕ × ℕ) = spans (stops (is_junction x) 0 its_nodes) in
      let in_stops : IsIn (spans (stops_by (at x w.id number) 0 (length its_nodes))) (from, to) = complete (at x w.id number) (length its_nodes) 0 from to (subst (λ n. IsSpan (at x w.id number) n from to) {x = length its_nodes} {y = 0 + length its_nodes} (omega arith) span) (omega arith) in
      let in_spans : IsIn all (from, to) = subst (λ l. IsIn (spans l) (from, to)) (sym its_stops) in_stops in
      let (k, (inside, is)) = at_in all (from, to) in_spans in
      let numbered : IsIn (enumerate_from 0 all) (0 + k, (from, to)) = subst (λ s. IsIn (enumerate_from 0 all) (0 + k, s)) (is (from, to)) (in_numbered 0 all k (from, to) inside) in
      (row_of (0 + k, (from, to)), (in_map row_of (enumerate_from 0 all) (0 + k, (from, to)) numbered, is_row (0 + k) from to span))

-- a row of the list
pub record RowPlace (x : Extract) (row : Piece) : Type 0 where
  pub way : ℤ
  pub run : ℕ
  pub from : ℕ
  pub to : ℕ
  pub is : IsRow x row way run from to

pub place_of_row : (x : Extract) (row : Piece) → IsIn (piece_rows x) row → RowPlace x row
place_of_row x row h =
    let (w, (there, in_way)) = of_flat (way_rows x) x.ways row h in
    let (e, (numbered, in_run)) = of_flat (λ (number, r). run_rows x w number r) (enumerate_from 0 (way_runs x.nodes w)) row in_way in
    let place : IsAt 0 (way_runs x.nodes w) e.0 e.1 = of_numbered 0 (way_runs x.nodes w) e numbered in
    let same : run x w.id e.0 ≡ e.1 = run_is x w e.0 there ∙ (ap (λ n. get_or (way_runs x.nodes w) n []) {x = e.0} {y = place.place} (place.number_is ∙ omega arith) ∙ place.is []) in
    let (from, (to, is)) = row_sound x w e.0 row (subst (λ r. IsIn (run_rows x w e.0 r) row) (sym same) in_run) in
    record { way = w.id; run = e.0; from = from; to = to; is = is }

-- a piece has a row
row_at : (x : Extract) (w : OsmWay) (number from to : ℕ) → IsIn x.ways w → number < length (way_runs x.nodes w) → IsSpan (at x w.id number) (length (run x w.id number)) from to → (row : Piece) × (IsIn (piece_rows x) row × IsRow x row w.id number from to)
row_at x w number from to there inside span =
    let (row, (in_run, is)) = row_complete x w number from to span in
    let numbered : IsIn (enumerate_from 0 (way_runs x.nodes w)) (number, run x w.id number) =
    subst (λ r. IsIn (enumerate_from 0 (way_runs x.nodes w)) (number, r)) (sym (run_is x w number there))
    (subst (λ n. IsIn (enumerate_from 0 (way_runs x.nodes w)) (n, get_or (way_runs x.nodes w) number [])) {x = 0 + number} {y = number} (omega arith) (in_numbered 0 (way_runs x.nodes w) number [] inside)) in
    (row, (in_flat (way_rows x) x.ways w row there (in_flat (λ (n, r). run_rows x w n r) (enumerate_from 0 (way_runs x.nodes w)) (number, run x w.id number) row numbered in_run), is))

pub row_of_piece : (x : Extract) (p : DirectedPiece) → IsPiece x p → (row : Piece) × (IsIn (piece_rows x) row × IsRow x row p.way p.run p.from p.to)
row_of_piece x p is =
    let of : IsOf x p.way p.run = is_of x p.way p.run (omega (arith, is.inside)) in
    let span : IsSpan (at x p.way p.run) (length (run x p.way p.run)) p.from p.to =
    record { rises = is.rises; inside = is.inside; begins = is.begins; ends = is.ends; plain = is.plain } in
    subst (λ id. (row : Piece) × (IsIn (piece_rows x) row × IsRow x row id p.run p.from p.to)) of.same_id
    (row_at x of.way p.run p.from p.to of.there of.inside (subst (λ id. IsSpan (at x id p.run) (length (run x id p.run)) p.from p.to) (sym of.same_id) span))

-- at each junction a piece starts
end_once : (n : ℤ) (r : List ℤ) → is_end n r ≡ true → 1 ≤ times n r
end_once n r h =
    elim (or_cases (is_first n r) (is_last n r) h) [ inl first ↦ first_once n r first | inr last ↦ last_once n r last ]

ends_once : (n : ℤ) (rs : List (List ℤ)) → list_any (is_end n) rs ≡ true → 1 ≤ sum_by (times n) rs
ends_once n [] h = absurd (both_ways false refl h)
ends_once n (r ∷ rs) h =
    elim (or_cases (is_end n r) (list_any (is_end n) rs) h) [
      | inl here ↦ omega (arith, sum_by-cons (times n) r rs, end_once n r here)
      | inr later ↦ omega (arith, sum_by-cons (times n) r rs, ends_once n rs later)
    ]

-- a junction stands in some run
junction_stands : (x : Extract) (n : ℤ) → is_junction x n ≡ true → 1 ≤ sum_by (times n) (all_runs x)
junction_stands x n h =
    elim (or_cases (list_any (is_end n) (all_runs x) || nat_le 2 (sum_by (times n) (all_runs x))) (has_barrier x.nodes n && nat_le 1 (sum_by (times n) (all_runs x))) h) [
      | inl counted ↦ elim (or_cases (list_any (is_end n) (all_runs x)) (nat_le 2 (sum_by (times n) (all_runs x))) counted) [
        | inl ends ↦ ends_once n (all_runs x) ends
        | inr twice ↦ omega (arith, leb-true 2 (sum_by (times n) (all_runs x)) twice)
      ]
      | inr barrier ↦ leb-true 1 (sum_by (times n) (all_runs x)) (and_parts _ _ barrier).1
    ]

run_with : (n : ℤ) (rs : List (List ℤ)) → 1 ≤ sum_by (times n) rs → (r : List ℤ) × (IsIn rs r × (1 ≤ times n r))
run_with n [] h = absurd (omega arith)
run_with n (r ∷ rs) h =
    elim (cases_lt 0 (times n r)) [
      | inl some ↦ (r, (inl refl, omega arith))
      | inr without ↦ let (s, (is, some)) = run_with n rs (omega (arith, sum_by-cons (times n) r rs)) in (s, (inr is, some))
    ]

place_with : (n : ℤ) (r : List ℤ) → 1 ≤ times n r → (k : ℕ) × ((k < length r) × (get_or r k (pos 0) ≡ n))
place_with n [] h = absurd (omega arith)
place_with n (m ∷ r) h =
    elim (cases_Bool (int_eq m n)) [
      | inl same ↦ (0, (omega arith, (signed_Decides m n).0 same))
      | inr other ↦ let (k, (inside, is)) = place_with n r (omega (arith, times-cons n m r, cond-false {A = ℕ} (int_eq m n) 1 0 other)) in (suc k, (omega arith, is))
    ]

-- no run is shorter than two nodes
long_by : (nodes : List OsmNode) (refs : List ℤ) (r : List ℤ) (b : Bool) → IsIn (cond b (runs nodes refs) []) r → 2 ≤ length r
long_by nodes refs r true h =
    let (k, (inside, is)) = at_in (runs nodes refs) r h in
    leb-true 2 (length r) (subst (λ s. nat_le 2 (length s) ≡ true) (is r) (filter_passes (λ s. nat_le 2 (length s)) (map (dedup int_eq) (stretches (has_node nodes) refs)) k r inside))
long_by nodes refs r false h = absurd h

long_run : (x : Extract) (w : OsmWay) (r : List ℤ) → IsIn (way_runs x.nodes w) r → 2 ≤ length r
long_run x w r h = long_by x.nodes w.refs r (is_routable w.tags) h

starts_ahead : (x : Extract) (way : ℤ) (number k : ℕ) (n : ℤ) → k + 1 < length (run x way number) → is_junction x n ≡ true → node x way number k ≡ n → (p : DirectedPiece) × (IsPiece x p × (piece_start x p ≡ n))
starts_ahead x way number k n h here is =
    let (to, piece) = piece_ahead x way number k h (subst (λ m. is_junction x m ≡ true) (sym is) here) in
    (record { way = way; run = number; from = k; to = to; forward = true }, (piece, is))

starts_back : (x : Extract) (way : ℤ) (number k : ℕ) (n : ℤ) → k + 1 < length (run x way number) → is_junction x n ≡ true → node x way number (k + 1) ≡ n → (p : DirectedPiece) × (IsPiece x p × (piece_start x p ≡ n))
starts_back x way number k n h here is =
    let (from, piece) = piece_back x way number k h (subst (λ m. is_junction x m ≡ true) (sym is) here) in
    (record { way = way; run = number; from = from; to = k + 1; forward = false }, (piece, is))

starts_at : (x : Extract) (way : ℤ) (number k : ℕ) (n : ℤ) → 2 ≤ length (run x way number) → k < length (run x way number) → is_junction x n ≡ true → node x way number k ≡ n → (p : DirectedPiece) × (IsPiece x p × (piece_start x p ≡ n))
starts_at x way number k n long inside here is =
    elim (cases_lt (k + 1) (length (run x way number))) [
      | inl more ↦ starts_ahead x way number k n more here is
      | inr last ↦ starts_back x way number (k - 1) n (omega arith) here (ap (node x way number) {x = k - 1 + 1} {y = k} (omega arith) ∙ is)
    ]

pub piece_from : (x : Extract) (n : ℤ) → is_junction x n ≡ true → (p : DirectedPiece) × (IsPiece x p × (piece_start x p ≡ n))
piece_from x n here =
    let (r, (is_run, some)) = run_with n (all_runs x) (junction_stands x n here) in
    let (k, (inside, is)) = place_with n r some in
    let (w, (there, in_way)) = of_flat (way_runs x.nodes) x.ways r is_run in
    let (number, (early, same)) = at_in (way_runs x.nodes w) r in_way in
    let nodes : run x w.id number ≡ r = run_is x w number there ∙ same [] in
    starts_at x w.id number k n (subst (λ s. 2 ≤ length s) (sym nodes) (long_run x w r in_way)) (subst (λ s. k < length s) (sym nodes) inside) here (ap (λ s. get_or s k (pos 0)) nodes ∙ is)
