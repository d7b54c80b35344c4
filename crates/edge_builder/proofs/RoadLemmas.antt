-- The roads of an extract: its junctions are in order, and its pieces end at them.
use Rattle.std.proofs.Common.{◌≡◌, ℕ, ◌+◌, ◌<◌, ◌≤◌, refl, sym, ◌∙◌, ap, subst, List, [], ◌∷◌, map, filter, length, get_or, ℤ, pos, Bool, true, false, cond, Some, None, find, option_map, nat_lt, inl, inr, arith, ltb-false}
use Rattle.std.specs.Prelude.{◌<ℤ◌, ◌⊎◌, All, nat_le}
use Rattle.std.specs.List.{list_any, enumerate_from, dedup, dedup_from}
use Rattle.std.specs.Ordering.{int_eq}
use Rattle.std.specs.Cmp.{signed_Decides}
use Rattle.std.proofs.lemmas.Bool.{both_ways, cases_lt}
use Rattle.std.proofs.lemmas.Option.{none-some}
use Rattle.std.proofs.lemmas.List.{get_or-map, length-map}
use Rattle.std.proofs.lemmas.List.Kept.{AllPairs-filter}
use Rattle.std.proofs.lemmas.List.Folds.{list_any_none}
use Rattle.std.proofs.lemmas.List.Sums.{length-filter, count_by-le-length, fails_before_first}
use Rattle.fixed_geo.specs.Place.{IsPlace}
use Rattle.osm_model.specs.declared.nodes.OsmNode.{OsmNode}
use Rattle.osm_model.specs.declared.ways.OsmWay.{OsmWay}
use Rattle.osm_model.specs.declared.extract.Extract.{Extract}
use Rattle.osm_model.specs.OsmNode.{IsPlaced}
use Rattle.road_pieces.specs.declared.rows.Junction.{Junction}
use Rattle.road_pieces.specs.declared.rows.Piece.{Piece}
use Rattle.road_pieces.specs.declared.faults.CutFault.TheVariants.{TooManyPieces}
use Rattle.road_pieces.specs.Lengths.{point_of}
use Rattle.road_pieces.specs.Rules.{is_routable}
use Rattle.road_pieces.specs.Runs.{has_node, lengthen, stretches, runs, way_runs, is_junction}
use Rattle.road_pieces.specs.Rows.{junction_row, junction_rows, stops, spans, piece_row, run_rows, way_rows, piece_rows, too_long, refusal}
use Rattle.road_pieces.proofs.Members.{IsIn, IsAt, in_at, at_in, in_map, of_map, of_flat, of_numbered}
use Rattle.road_pieces.proofs.Spans.{IsSpan, stops_by, stops_are, sound}
use Rattle.road_walks.proofs.Locals.{in_filter}
use Rattle.road_walks.proofs.Sorted.{of_filter, any_in, of_any}
use Rattle.edge_builder.specs.BaseRows.{junction_place, JunctionsRise, IsJoined, IsShort, AreRoads}
use Rattle.edge_builder.specs.RoadLaws.{ExtractRoads}
use Rattle.edge_builder.proofs.TileLemmas.{none_found, fails_at}

-- ---- junctions

place_of_node : (n : OsmNode) → IsPlaced n → IsPlace (point_of n)
place_of_node n p = record { from_south = p.from_south; to_north = p.to_north; from_west = p.from_west; to_east = p.to_east }

-- a junction has a place where some junction has its id
place_low : (js : List Junction) (n : ℤ) → list_any (λ j. int_eq j.osm n) js ≡ true → junction_place js n < length js
place_low js n h =
    elim (cases_lt (junction_place js n) (length js)) [
      | inl inside ↦ inside
      | inr past ↦ absurd (both_ways (list_any (λ j. int_eq j.osm n) js)
          (list_any_none (λ j. int_eq j.osm n) js (λ k d l. fails_before_first (λ j. int_eq j.osm n) js k d (omega (arith, l, past)))) h)
    ]

module _ (x : Extract) where
  abbrev junctions : List Junction
  junctions = junction_rows x

  abbrev kept : List OsmNode
  kept = filter (λ n. is_junction x n.id) x.nodes

  placed : All (λ j. IsPlace j.at) junctions
  placed k d h =
      let (n, (there, is)) = of_map junction_row kept (get_or junctions k d) (in_at junctions k d (get_or junctions k d) h refl) in
      let (inside, passes) = of_filter (λ m. is_junction x m.id) x.nodes n there in
      let (i, (low, same)) = at_in x.nodes n inside in
      subst (λ j. IsPlace j.at) is (place_of_node n (subst IsPlaced (same n) (x.placed i n low)))

  pub rise : JunctionsRise junctions
  rise i j d h l =
      let low : j < length kept = omega (arith, l, length-map kept junction_row) in
      let (n, there) = some_node kept j low in
      let below : (get_or kept i n).id <ℤ (get_or kept j n).id = AllPairs-filter (λ a b. a.id <ℤ b.id) (λ m. is_junction x m.id) x.nodes x.nodes_rise i j n h low in
      subst (λ e. e.osm <ℤ (get_or junctions j d).osm) (sym (get_or-map junction_row kept i n d (omega (arith, h, low))))
      (subst (λ e. (get_or kept i n).id <ℤ e.osm) (sym (get_or-map junction_row kept j n d low)) below)
    where
      some_node : (ns : List OsmNode) (k : ℕ) → k < length ns → (n : OsmNode) × IsIn ns n
      some_node [] k m = absurd (omega (arith, m))
      some_node (n ∷ ns) k m = (n, inl refl)

  few : length junctions ≤ 10_000_000
  few =
      omega (arith, length-map kept junction_row, length-filter (λ n. is_junction x n.id) x.nodes, count_by-le-length (λ n. is_junction x n.id) x.nodes, x.node_limit)

  -- a junction whose node is there has a row
  junction_there : (n : ℤ) → is_junction x n ≡ true → has_node x.nodes n ≡ true → junction_place junctions n < length junctions
  junction_there n is known =
      let (m, (there, same)) = of_any (λ k. int_eq k.id n) x.nodes known in
      let id : m.id ≡ n = (signed_Decides m.id n).0 same in
      let inside = in_filter (λ k. is_junction x k.id) x.nodes m there (ap (is_junction x) id ∙ is) in
      place_low junctions n (any_in (λ j. int_eq j.osm n) junctions (junction_row m) (in_map junction_row kept m inside) same)

-- ---- the nodes of runs

of_dedup_from : (k : ℤ) (ids : List ℤ) (n : ℤ) → IsIn (dedup_from int_eq k ids) n → (k ≡ n) ⊎ IsIn ids n
of_dedup_from k [] n h = h
of_dedup_from k (id ∷ ids) n h = by (int_eq id k) h (of_dedup_from k ids n) (of_dedup_from id ids n)
  where
    by : (b : Bool) → IsIn (cond b (dedup_from int_eq k ids) (k ∷ dedup_from int_eq id ids)) n → (IsIn (dedup_from int_eq k ids) n → (k ≡ n) ⊎ IsIn ids n) → (IsIn (dedup_from int_eq id ids) n → (id ≡ n) ⊎ IsIn ids n) → (k ≡ n) ⊎ ((id ≡ n) ⊎ IsIn ids n)
    by true l same other = elim (same l) [ inl is ↦ inl is | inr there ↦ inr (inr there) ]
    by false (inl is) same other = inl is
    by false (inr l) same other = inr (other l)

of_dedup : (ids : List ℤ) (n : ℤ) → IsIn (dedup int_eq ids) n → IsIn ids n
of_dedup [] n h = h
of_dedup (id ∷ ids) n h = of_dedup_from id ids n h

of_lengthen : (id : ℤ) (ss : List (List ℤ)) (s : List ℤ) (n : ℤ) → IsIn (lengthen id ss) s → IsIn s n → (id ≡ n) ⊎ ((t : List ℤ) × (IsIn ss t × IsIn t n))
of_lengthen id [] s n (inl is) k = elim (subst (λ t. IsIn t n) (sym is) k) [ inl same ↦ inl same | inr none ↦ absurd none ]
of_lengthen id [] s n (inr none) k = absurd none
of_lengthen id (t ∷ ts) s n (inl is) k = elim (subst (λ u. IsIn u n) (sym is) k) [ inl same ↦ inl same | inr there ↦ inr (t, (inl refl, there)) ]
of_lengthen id (t ∷ ts) s n (inr later) k = inr (s, (inr later, k))

-- what stands in a stretch passes
stretch_passes : (test : ℤ → Bool) (ids s : List ℤ) (n : ℤ) → IsIn (stretches test ids) s → IsIn s n → test n ≡ true
stretch_passes test [] s n (inl is) k = absurd (subst (λ t. IsIn t n) (sym is) k)
stretch_passes test [] s n (inr none) k = absurd none
stretch_passes test (id ∷ ids) s n h k = by (test id) refl h (stretch_passes test ids)
  where
    by : (b : Bool) → test id ≡ b → IsIn (cond b (lengthen id (stretches test ids)) ([] ∷ stretches test ids)) s → ((t : List ℤ) (m : ℤ) → IsIn (stretches test ids) t → IsIn t m → test m ≡ true) → test n ≡ true
    by true q l rest = elim (of_lengthen id (stretches test ids) s n l k) [
      | inl same ↦ ap test (sym same) ∙ q
      | inr other ↦ let (t, (there, inside)) = other in rest t n there inside
    ]
    by false q (inl is) rest = absurd (subst (λ t. IsIn t n) (sym is) k)
    by false q (inr later) rest = rest s n later k

runs_known : (nodes : List OsmNode) (refs r : List ℤ) (b : Bool) (n : ℤ) → IsIn (cond b (runs nodes refs) []) r → IsIn r n → has_node nodes n ≡ true
runs_known nodes refs r true n h k =
    let (there, long) = of_filter (λ s. nat_le 2 (length s)) (map (dedup int_eq) (stretches (has_node nodes) refs)) r h in
    let (s, (inside, is)) = of_map (dedup int_eq) (stretches (has_node nodes) refs) r there in
    stretch_passes (has_node nodes) refs s n inside (of_dedup s n (subst (λ t. IsIn t n) (sym is) k))
runs_known nodes refs r false n h k = absurd h

-- ---- where pieces end

-- a piece lies between two junctions of a run
record IsCut (x : Extract) (row : Piece) : Type 0 where
  way : OsmWay
  nodes : List ℤ
  there : IsIn (way_runs x.nodes way) nodes
  from : ℕ
  to : ℕ
  span : IsSpan (λ k. is_junction x (get_or nodes k (pos 0))) (length nodes) from to
  start : get_or nodes from (pos 0) ≡ row.start
  end : get_or nodes to (pos 0) ≡ row.end

module _ (x : Extract) where
  cut_so : (row : Piece) → IsIn (piece_rows x) row → IsCut x row
  cut_so row h =
      let (w, (on, in_way)) = of_flat (way_rows x) x.ways row h in
      let (e, (numbered, in_run)) = of_flat (λ (number, r). run_rows x w number r) (enumerate_from 0 (way_runs x.nodes w)) row in_way in
      let run_at : IsAt 0 (way_runs x.nodes w) e.0 e.1 = of_numbered 0 (way_runs x.nodes w) e numbered in
      let (f, (listed, same)) = of_map (λ (piece, (from, to)). piece_row x w e.0 e.1 piece from to) (enumerate_from 0 (spans (stops (is_junction x) 0 e.1))) row in_run in
      let span_at : IsAt 0 (spans (stops (is_junction x) 0 e.1)) f.0 f.1 = of_numbered 0 (spans (stops (is_junction x) 0 e.1)) f listed in
      let at : ℕ → Bool = λ k. is_junction x (get_or e.1 k (pos 0)) in
      let its : stops (is_junction x) 0 e.1 ≡ stops_by at 0 (length e.1) = stops_are (is_junction x) (pos 0) at e.1 0 (λ i l. ap at {x = 0 + i} {y = i} (omega arith)) in
      let in_spans : IsIn (spans (stops_by at 0 (length e.1))) f.1 = subst (λ ks. IsIn (spans ks) f.1) its (in_at (spans (stops (is_junction x) 0 e.1)) span_at.place f.1 f.1 span_at.inside (span_at.is f.1)) in
      let span : IsSpan at (0 + length e.1) f.1.0 f.1.1 = sound at (length e.1) 0 f.1.0 f.1.1 in_spans in
      record {
        way = w;
        nodes = e.1;
        there = in_at (way_runs x.nodes w) run_at.place [] e.1 run_at.inside (run_at.is []);
        from = f.1.0;
        to = f.1.1;
        span = subst (λ n. IsSpan at n f.1.0 f.1.1) {x = 0 + length e.1} {y = length e.1} (omega arith) span;
        start = ap (λ p. p.start) same;
        end = ap (λ p. p.end) same;
      }

  its_junction : (row : Piece) (c : IsCut x row) (k : ℕ) → k < length c.nodes → is_junction x (get_or c.nodes k (pos 0)) ≡ true → junction_place (junction_rows x) (get_or c.nodes k (pos 0)) < length (junction_rows x)
  its_junction row c k h is =
      junction_there x (get_or c.nodes k (pos 0)) is (runs_known x.nodes c.way.refs c.nodes (is_routable c.way.tags) (get_or c.nodes k (pos 0)) c.there (in_at c.nodes k (pos 0) (get_or c.nodes k (pos 0)) h refl))

  pub joined : All (IsJoined (junction_rows x)) (piece_rows x)
  joined k d h =
      let row = get_or (piece_rows x) k d in
      let c : IsCut x row = cut_so row (in_at (piece_rows x) k d row h refl) in
      record {
        start = subst (λ n. junction_place (junction_rows x) n < length (junction_rows x)) c.start (its_junction row c c.from (omega (arith, c.span.rises, c.span.inside)) c.span.begins);
        end = subst (λ n. junction_place (junction_rows x) n < length (junction_rows x)) c.end (its_junction row c c.to c.span.inside c.span.ends);
      }

-- ---- pieces

accepted : (ps : List Piece) → refusal ps ≡ None → (length ps ≤ 4_000_000) × All IsShort ps
accepted ps e = by (nat_lt 4_000_000 (length ps)) refl e
  where
    by : (b : Bool) → nat_lt 4_000_000 (length ps) ≡ b → cond b (Some (TooManyPieces (length ps))) (option_map too_long (find (λ p. nat_lt 268_435_455 p.cm) ps)) ≡ None → (length ps ≤ 4_000_000) × All IsShort ps
    by true q n = absurd (none-some (TooManyPieces (length ps)) (sym n))
    by false q n = (ltb-false 4_000_000 (length ps) q, λ k d h. ltb-false 268_435_455 (get_or ps k d).cm (fails_at (λ p. nat_lt 268_435_455 p.cm) ps k d (none_found too_long (find (λ p. nat_lt 268_435_455 p.cm) ps) n) h))

rows_are_roads : (x : Extract) → refusal (piece_rows x) ≡ None → AreRoads (junction_rows x) (piece_rows x)
rows_are_roads x e =
    let (few_pieces, short) = accepted (piece_rows x) e in
    record {
      placed = placed x;
      rise = rise x;
      joined = joined x;
      short = short;
      few_junctions = few x;
      few_pieces = few_pieces;
    }

pub roads_are : ExtractRoads
roads_are x roads is e =
    subst (λ ps. AreRoads roads.junctions ps) (sym is.pieces) (subst (λ js. AreRoads js (piece_rows x)) (sym is.junctions) (rows_are_roads x e))
