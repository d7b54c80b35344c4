-- The pieces of an extract are its directed pieces that run forward.
use Rattle.std.proofs.Common.{◌≡◌, ℕ, suc, ◌+◌, ◌-◌, ◌<◌, refl, sym, ◌∙◌, ap, subst, List, [], ◌∷◌, ◌++◌, map, filter, take, drop, length, get_or, ℤ, pos, Bool, true, false, nat_eq, inl, inr, arith}
use Rattle.std.specs.List.{flat_map, enumerate_from, position_or_len}
use Rattle.std.specs.Option.{option_map_or}
use Rattle.std.proofs.lemmas.List.{map-append}
use Rattle.std.proofs.lemmas.List.Elements.{filter-append}
use Rattle.osm_model.specs.declared.ways.OsmWay.{OsmWay}
use Rattle.osm_model.specs.declared.extract.Extract.{Extract}
use Rattle.road_pieces.specs.DirectedPiece.{DirectedPiece}
use Rattle.road_pieces.specs.Lengths.{point, piece_cm}
use Rattle.road_pieces.specs.Rules.{class_of, forward_access, backward_access, names_of, way_tags}
use Rattle.road_pieces.specs.Runs.{way_runs, run, is_junction}
use Rattle.road_pieces.specs.Rows.{stops, spans, course, course_cm, piece_row, run_rows, way_rows}
use Rattle.road_pieces.proofs.Members.{IsIn, IsAt, in_at, of_numbered}
use Rattle.road_pieces.proofs.Spans.{IsSpan, stops_by, stops_are, sound}
use Rattle.road_walks.specs.BaseEdges.{run_pieces, way_pieces}
use Rattle.edge_builder.specs.ExtractRows.{piece_of_extract}
use Rattle.edge_builder.specs.BaseStages.{PiecesToldForward}
use Rattle.edge_builder.proofs.FoundRows.{found_way, found_tags}
use Rattle.edge_builder.proofs.NumberedSpans.{span_number}
use Rattle.edge_builder.proofs.PieceLengths.{length_of_course}

-- the rows of the pieces that run forward, of two lists one after the other
rows_append : (x : Extract) (es fs : List DirectedPiece) → map (piece_of_extract x) (filter (λ p. p.forward) es) ++ map (piece_of_extract x) (filter (λ p. p.forward) fs) ≡ map (piece_of_extract x) (filter (λ p. p.forward) (es ++ fs))
rows_append x es fs =
    sym (map-append (piece_of_extract x) (filter (λ p. p.forward) es) (filter (λ p. p.forward) fs)) ∙ ap (map (piece_of_extract x)) (sym (filter-append (λ p. p.forward) es fs))

module _ (x : Extract) (w : OsmWay) (there : IsIn x.ways w) (number : ℕ) where
  abbrev its_run : List ℤ
  its_run = run x w.id number

  abbrev its_spans : List (ℕ × ℕ)
  its_spans = spans (stops (is_junction x) 0 its_run)

  abbrev stops_at : ℕ → Bool
  stops_at k = is_junction x (get_or its_run k (pos 0))

  abbrev part : ℕ → ℕ → DirectedPiece
  part from to = record { way = w.id; run = number; from = from; to = to; forward = true }

  its_span : (k : ℕ) (s : ℕ × ℕ) → IsIn (enumerate_from 0 its_spans) (k, s) → IsSpan stops_at (0 + length its_run) s.0 s.1
  its_span k s h =
      let at : IsAt 0 its_spans k s = of_numbered 0 its_spans (k, s) h in
      let its : stops (is_junction x) 0 its_run ≡ stops_by stops_at 0 (length its_run) = stops_are (is_junction x) (pos 0) stops_at its_run 0 (λ i l. ap stops_at {x = 0 + i} {y = i} (omega arith)) in
      sound stops_at (length its_run) 0 s.0 s.1 (subst (λ ks. IsIn (spans ks) s) its (in_at its_spans at.place s s at.inside (at.is s)))

  row_told : (k : ℕ) (s : ℕ × ℕ) → IsIn (enumerate_from 0 its_spans) (k, s) → piece_row x w number its_run k s.0 s.1 ≡ piece_of_extract x (part s.0 s.1)
  row_told k s h =
      let span = its_span k s h in
      let numbered : k ≡ position_or_len (nat_eq s.0) (stops (is_junction x) 0 its_run) = sym (span_number (is_junction x) its_run k s h) in
      let shape : course x.nodes its_run s.0 s.1 ≡ map (point x.nodes) (take (suc (s.1 - s.0)) (drop s.0 its_run)) =
      ap (λ n. map (point x.nodes) (take n (drop s.0 its_run))) {x = s.1 + 1 - s.0} {y = suc (s.1 - s.0)} (omega (arith, span.rises)) in
      let cm : course_cm (course x.nodes its_run s.0 s.1) ≡ piece_cm x (part s.0 s.1) =
      ap course_cm shape ∙ length_of_course x w.id number s.0 s.1 span.rises (omega (arith, span.inside)) in
      let tags : w.tags ≡ way_tags x w.id = sym (found_tags x w there) in
      λ i. record {
        key = record { way = w.id; run = number; piece = numbered i };
        start = get_or its_run s.0 (pos 0);
        end = get_or its_run s.1 (pos 0);
        shape = shape i;
        cm = cm i;
        class = class_of (tags i);
        forward = forward_access (tags i);
        backward = backward_access (tags i);
        names = names_of (tags i);
      }

  spans_told : (n : ℕ) (ss : List (ℕ × ℕ)) → ((k : ℕ) (s : ℕ × ℕ) → IsIn (enumerate_from n ss) (k, s) → piece_row x w number its_run k s.0 s.1 ≡ piece_of_extract x (part s.0 s.1)) → map (λ (piece, (from, to)). piece_row x w number its_run piece from to) (enumerate_from n ss) ≡ map (piece_of_extract x) (filter (λ p. p.forward) (flat_map (λ (from, to). part from to ∷ (record { way = w.id; run = number; from = from; to = to; forward = false } ∷ [])) ss))
  spans_told n [] told = refl
  spans_told n ((from, to) ∷ ss) told = λ i. told n (from, to) (inl refl) i ∷ spans_told (n + 1) ss (λ k s h. told k s (inr h)) i

  run_told : run_rows x w number its_run ≡ map (piece_of_extract x) (filter (λ p. p.forward) (run_pieces x w.id number its_run))
  run_told = spans_told 0 its_spans row_told

module _ (x : Extract) (w : OsmWay) (there : IsIn x.ways w) where
  runs_told : (n : ℕ) (rs : List (List ℤ)) → ((i : ℕ) → i < length rs → run x w.id (n + i) ≡ get_or rs i []) → flat_map (λ (number, r). run_rows x w number r) (enumerate_from n rs) ≡ map (piece_of_extract x) (filter (λ p. p.forward) (flat_map (λ (number, r). run_pieces x w.id number r) (enumerate_from n rs)))
  runs_told n [] its = refl
  runs_told n (r ∷ rs) its =
      let is_r : run x w.id n ≡ r = ap (run x w.id) {x = n} {y = n + 0} (omega arith) ∙ its 0 (omega arith) in
      let here : run_rows x w n r ≡ map (piece_of_extract x) (filter (λ p. p.forward) (run_pieces x w.id n r)) =
      subst (λ s. run_rows x w n s ≡ map (piece_of_extract x) (filter (λ p. p.forward) (run_pieces x w.id n s))) is_r (run_told x w there n) in
      let rest = runs_told (n + 1) rs (λ i h. ap (run x w.id) {x = n + 1 + i} {y = n + suc i} (omega arith) ∙ its (suc i) (omega (arith, h))) in
      (λ i. here i ++ rest i) ∙ rows_append x (run_pieces x w.id n r) (flat_map (λ (number, s). run_pieces x w.id number s) (enumerate_from (n + 1) rs))

  way_told : way_rows x w ≡ map (piece_of_extract x) (filter (λ p. p.forward) (way_pieces x w))
  way_told =
      runs_told 0 (way_runs x.nodes w) (λ i h. ap (run x w.id) {x = 0 + i} {y = i} (omega arith) ∙ ap (λ o. get_or (option_map_or (way_runs x.nodes) o []) i []) (found_way x w there))

ways_told : (x : Extract) (ws : List OsmWay) → ((w : OsmWay) → IsIn ws w → IsIn x.ways w) → flat_map (way_rows x) ws ≡ map (piece_of_extract x) (filter (λ p. p.forward) (flat_map (way_pieces x) ws))
ways_told x [] inside = refl
ways_told x (w ∷ ws) inside =
    (λ i. way_told x w (inside w (inl refl)) i ++ ways_told x ws (λ v h. inside v (inr h)) i) ∙ rows_append x (way_pieces x w) (flat_map (way_pieces x) ws)

pub told_forward : PiecesToldForward
told_forward x = ways_told x x.ways (λ w h. h)
