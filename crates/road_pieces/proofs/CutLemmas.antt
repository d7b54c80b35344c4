-- What the lines give is what the definitions name.
use Rattle.std.proofs.Common.{◌≡◌, ℕ, zero, suc, ◌+◌, ◌*◌, ◌<◌, ◌≤◌, refl, sym, ◌∙◌, ap, List, [], ◌∷◌, ◌++◌, length, map, get_or, drop, take, ℤ, Bool, true, false, cond, arith}
use Rattle.std.specs.Prelude.{All, filter, sum_by, Option, Some, find, option_map, nat_lt, nat_le, slice_get}
use Rattle.std.specs.List.{flat_map, enumerate_from, dedup}
use Rattle.std.specs.Ordering.{int_eq}
use Rattle.std.proofs.lemmas.Bool.{cond-true, cond-false, lt-ltb, le-ltb, leb-true}
use Rattle.std.proofs.lemmas.List.{length-map, length-append, get_or_default, map-append, append-nil}
use Rattle.std.proofs.lemmas.List.Concat.{length-flat_map}
use Rattle.std.proofs.lemmas.List.FromFn.{length-enumerate_from}
use Rattle.std.proofs.lemmas.List.Elements.{All-head, All-tail, filter_more}
use Rattle.std.proofs.lemmas.List.Sums.{sum_by-append, sum_by-cons}
use Rattle.osm_model.specs.declared.nodes.OsmNode.{OsmNode}
use Rattle.osm_model.specs.declared.ways.OsmWay.{OsmWay}
use Rattle.osm_model.specs.declared.extract.Extract.{Extract}
use Rattle.osm_model.specs.Extract.{refs_in}
use Rattle.road_pieces.specs.declared.rows.Junction.{Junction}
use Rattle.road_pieces.specs.declared.rows.Piece.{Piece}
use Rattle.road_pieces.specs.declared.faults.CutFault.{CutFault}
use Rattle.road_pieces.specs.declared.faults.CutFault.TheVariants.{TooManyPieces}
use Rattle.road_pieces.specs.Rules.{is_routable}
use Rattle.road_pieces.specs.Runs.{has_node, stretches, runs, way_runs, all_runs, is_junction}
use Rattle.road_pieces.specs.Rows.{stops, spans_from, run_rows, piece_rows, junction_row, too_long, refusal}
use Rattle.road_pieces.specs.Lines.{Line, place_of, id_at, no_node, all_lines, IsSound}
use Rattle.road_pieces.specs.Parts.{line_rows, no_way}
use Rattle.road_pieces.specs.PieceRows.{Drafted}
use Rattle.road_pieces.specs.Counts.{pieces_in, pieces_of_lines, places_of_lines}
use Rattle.road_pieces.proofs.RunLemmas.{AreThere, id_there, runs_from, kept, longer, longer_short, runs_in_one_pass}
use Rattle.road_pieces.proofs.LineLemmas.{flat_of_lines, sum_of_lines, lines_sound}
use Rattle.road_pieces.proofs.PartLemmas.{line_is, stops_at, flag_is}
use Rattle.road_pieces.proofs.EachLine.{sums_alike, sum_more, flat_more}

-- places of nodes, and back
ids_back : (nodes : List OsmNode) (run : List ℤ) → AreThere nodes run → map (id_at nodes) (map (place_of nodes) run) ≡ run
ids_back nodes [] there = refl
ids_back nodes (id ∷ run) there =
    ap (λ i. i ∷ map (id_at nodes) (map (place_of nodes) run)) (id_there nodes id (All-head (λ i. has_node nodes i ≡ true) id run there)) ∙ ap (λ l. id ∷ l) (ids_back nodes run (All-tail (λ i. has_node nodes i ≡ true) id run there))

-- the pieces of all lines are the pieces of the extract
pub rows_are : (x : Extract) → flat_map (line_rows x) (all_lines x) ≡ piece_rows x
rows_are x =
    flat_of_lines x.nodes x.ways (line_rows x) (λ way (number, run). run_rows x way number run)
    (λ place number d run h there. ap (run_rows x (get_or x.ways place no_way) number) (ids_back x.nodes run there) ∙ ap (λ w. run_rows x w number run) (get_or_default x.ways place no_way d h)) 0 x.ways refl

-- they are counted right
length-spans_from : (i : ℕ) (js : List ℕ) → length (spans_from i js) ≡ length js
length-spans_from i [] = refl
length-spans_from i (j ∷ js) = ap suc (length-spans_from j js)

stops_alike : (s t : ℕ → Bool) (P : ℕ → Type 0) → ((p : ℕ) → P p → s p ≡ t p) → (k : ℕ) (ps : List ℕ) → All P ps → stops s k ps ≡ stops t k ps
stops_alike s t P same k [] all = refl
stops_alike s t P same k (p ∷ ps) all =
    ap (λ b. cond b (k ∷ stops s (k + 1) ps) (stops s (k + 1) ps)) (same p (All-head P p ps all)) ∙ ap (λ l. cond (t p) (k ∷ l) l) (stops_alike s t P same (k + 1) ps (All-tail P p ps all))

drop_all_of : {E : Type 0} (P : E → Type 0) (xs : List E) → All P xs → All P (drop 1 xs)
drop_all_of P [] all = all
drop_all_of P (x ∷ xs) all = All-tail P x xs all

counted_line : (x : Extract) (flags : List Bool) → flags ≡ map (λ n. is_junction x n.id) x.nodes → (line : Line) → IsSound x line → pieces_in flags line.places ≡ length (line_rows x line)
counted_line x flags e line sound =
    let way : OsmWay = get_or x.ways line.way no_way in
    let same : stops (λ p. get_or flags p false) 1 (drop 1 line.places) ≡ stops (stops_at x) 1 (drop 1 line.places) =
    stops_alike (λ p. get_or flags p false) (stops_at x) (λ p. p < length x.nodes) (λ p h. ap (λ l. get_or l p false) e ∙ flag_is (λ n. is_junction x n.id) x.nodes p no_node h) 1 (drop 1 line.places) (drop_all_of (λ p. p < length x.nodes) line.places sound.places) in
    ap length same ∙ sym (ap length (line_is x line way sound) ∙ (length-map (enumerate_from 0 (spans_from 0 (stops (stops_at x) 1 (drop 1 line.places)))) _ ∙ (length-enumerate_from 0 (spans_from 0 (stops (stops_at x) 1 (drop 1 line.places))) ∙ length-spans_from 0 (stops (stops_at x) 1 (drop 1 line.places)))))

pub counted_all : (x : Extract) (flags : List Bool) → flags ≡ map (λ n. is_junction x n.id) x.nodes → pieces_of_lines flags (all_lines x) ≡ length (piece_rows x)
counted_all x flags e =
    sums_alike (IsSound x) (λ l. pieces_in flags l.places) (λ l. length (line_rows x l)) (all_lines x) (counted_line x flags e) (lines_sound x) ∙ (sym (length-flat_map (line_rows x) (all_lines x)) ∙ ap length (rows_are x))

-- all places together are no more than the refs
total_kept : (begun : List ℤ) → sum_by length (kept begun) ≤ length begun
total_kept begun = kept_by (nat_le 2 (length begun))
  where
    kept_by : (b : Bool) → sum_by length (cond b (begun ∷ []) []) ≤ length begun
    kept_by true = omega arith
    kept_by false = omega arith

total_from : (test : ℤ → Bool) (refs begun : List ℤ) → sum_by length (runs_from test begun refs) ≤ length begun + length refs
total_from test [] begun = omega (arith, total_kept begun)
total_from test (r ∷ refs) begun =
    total_by (test r) (total_from test refs (longer begun r)) (total_from test refs [])
  where
    total_by : (b : Bool) → sum_by length (runs_from test (longer begun r) refs) ≤ length (longer begun r) + length refs → sum_by length (runs_from test [] refs) ≤ 0 + length refs → sum_by length (cond b (runs_from test (longer begun r) refs) (kept begun ++ runs_from test [] refs)) ≤ length begun + suc (length refs)
    total_by true goes stops = omega (arith, goes, longer_short begun r)
    total_by false goes stops =
        omega (arith, stops, total_kept begun, sum_by-append length (kept begun) (runs_from test [] refs))

total_way : (nodes : List OsmNode) (way : OsmWay) → sum_by length (way_runs nodes way) ≤ length way.refs
total_way nodes way = total_by (is_routable way.tags)
  where
    total_by : (b : Bool) → sum_by length (cond b (runs nodes way.refs) []) ≤ length way.refs
    total_by true =
        omega (arith, total_from (has_node nodes) way.refs [], ap (sum_by length) (runs_in_one_pass nodes way.refs))
    total_by false = omega arith

total_ways : (nodes : List OsmNode) (ways : List OsmWay) → sum_by length (flat_map (way_runs nodes) ways) ≤ refs_in ways
total_ways nodes [] = omega arith
total_ways nodes (way ∷ ways) =
    omega (arith, total_way nodes way, total_ways nodes ways, sum_by-append length (way_runs nodes way) (flat_map (way_runs nodes) ways), sum_by-cons (λ w. length w.refs) way ways)

pub few_places : (x : Extract) → places_of_lines (all_lines x) ≤ 20_000_000
few_places x =
    omega (arith, x.ref_limit, total_ways x.nodes x.ways, sum_of_lines x.nodes (λ l. length l.places) length (λ way number run there. length-map run (place_of x.nodes)) 0 x.ways)

-- there are as many lines as runs
ones : {E : Type 0} (xs : List E) → sum_by (λ x. 1) xs ≡ length xs
ones [] = refl
ones (x ∷ xs) = sum_by-cons (λ y. 1) x xs ∙ omega (arith, ones xs)

pub as_many : (x : Extract) → length (all_lines x) ≡ length (all_runs x)
as_many x =
    sym (ones (all_lines x)) ∙ (sum_of_lines x.nodes (λ l. 1) (λ r. 1) (λ way number run there. refl) 0 x.ways ∙ ones (all_runs x))

-- and no more lines than places, since a run has two nodes or more
kept_long : (rs : List (List ℤ)) → length (filter (λ run. nat_le 2 (length run)) rs) ≤ sum_by length (filter (λ run. nat_le 2 (length run)) rs)
kept_long [] = omega arith
kept_long (r ∷ rs) = by (nat_le 2 (length r)) refl (kept_long rs)
  where
    by : (b : Bool) → nat_le 2 (length r) ≡ b → length (filter (λ run. nat_le 2 (length run)) rs) ≤ sum_by length (filter (λ run. nat_le 2 (length run)) rs) → length (cond b (r ∷ filter (λ run. nat_le 2 (length run)) rs) (filter (λ run. nat_le 2 (length run)) rs)) ≤ sum_by length (cond b (r ∷ filter (λ run. nat_le 2 (length run)) rs) (filter (λ run. nat_le 2 (length run)) rs))
    by true long rest =
        let two : 2 ≤ length r = leb-true 2 (length r) long in
        omega (arith, rest, two, sum_by-cons length r (filter (λ run. nat_le 2 (length run)) rs))
    by false long rest = rest

way_long : (nodes : List OsmNode) (way : OsmWay) → length (way_runs nodes way) ≤ sum_by length (way_runs nodes way)
way_long nodes way = by (is_routable way.tags)
  where
    by : (b : Bool) → length (cond b (runs nodes way.refs) []) ≤ sum_by length (cond b (runs nodes way.refs) [])
    by true = kept_long (map (dedup int_eq) (stretches (has_node nodes) way.refs))
    by false = omega arith

ways_long : (nodes : List OsmNode) (ways : List OsmWay) → length (flat_map (way_runs nodes) ways) ≤ sum_by length (flat_map (way_runs nodes) ways)
ways_long nodes [] = omega arith
ways_long nodes (way ∷ ways) =
    omega (arith, way_long nodes way, ways_long nodes ways, length-append (way_runs nodes way) (flat_map (way_runs nodes) ways), sum_by-append length (way_runs nodes way) (flat_map (way_runs nodes) ways))

pub few_lines : (x : Extract) → length (all_lines x) ≤ 20_000_000
few_lines x = omega (arith, as_many x, ways_long x.nodes x.ways, total_ways x.nodes x.ways, x.ref_limit)

-- the lines so far are cut, and gave no more than two points for each of their places, and two names each
pub record AreCutSo (x : Extract) (lines : List Line) (now : Drafted) (i : ℕ) : Type 0 where
  pub done : now.done ≡ flat_map (line_rows x) (take i lines)
  pub points : now.points ≤ 2 * places_of_lines (take i lines)
  pub named : now.named ≤ 2 * i

pub one_line_more : (x : Extract) (lines : List Line) (now new : Drafted) (i : ℕ) (line : Line) → i < length lines → slice_get lines i ≡ Some line → new.done ≡ now.done ++ line_rows x line → new.points ≤ now.points + 2 * length line.places → new.named ≤ now.named + 2 → AreCutSo x lines now i → AreCutSo x lines new (i + 1)
one_line_more x lines now new i line h is done points named s = record {
  done = done ∙ (ap (λ l. l ++ line_rows x line) s.done ∙ flat_more (line_rows x) lines i line h is);
  points = omega (arith, points, s.points, sum_more (λ l. length l.places) lines i line h is);
  named = omega (arith, named, s.named);
}

-- the refusals
pub refuse_many : (pieces : List Piece) (count : ℕ) → count ≡ length pieces → 4_000_000 < count → refusal pieces ≡ Some (TooManyPieces count)
refuse_many pieces count e h =
    cond-true _ _ _ (lt-ltb 4_000_000 (length pieces) (omega arith)) ∙ ap (λ n. Some (TooManyPieces n)) (sym e)

pub refuse_long : (pieces : List Piece) (count : ℕ) (long : Option CutFault) → count ≡ length pieces → count ≤ 4_000_000 → long ≡ option_map too_long (find (λ p. nat_lt 268_435_455 p.cm) pieces) → refusal pieces ≡ long
refuse_long pieces count long e h is =
    cond-false _ _ _ (le-ltb 4_000_000 (length pieces) (omega arith)) ∙ sym is

-- one node more is a junction or none
flag_of : (x : Extract) (flags : List Bool) (place : ℕ) (node : OsmNode) → flags ≡ map (λ n. is_junction x n.id) x.nodes → place < length x.nodes → node ≡ get_or x.nodes place node → get_or flags place false ≡ is_junction x (get_or x.nodes place node).id
flag_of x flags place node e h is =
    ap (λ l. get_or l place false) e ∙ flag_is (λ n. is_junction x n.id) x.nodes place node h

pub junction_yes : (x : Extract) (flags : List Bool) (place : ℕ) (node : OsmNode) (js new : List Junction) (j : Junction) → flags ≡ map (λ n. is_junction x n.id) x.nodes → place < length x.nodes → node ≡ get_or x.nodes place node → get_or flags place false ≡ true → js ≡ map junction_row (filter (λ n. is_junction x n.id) (take place x.nodes)) → j ≡ junction_row node → new ≡ js ++ j ∷ [] → new ≡ map junction_row (filter (λ n. is_junction x n.id) (take (place + 1) x.nodes))
junction_yes x flags place node js new j e h is flag before row made =
    let t : OsmNode → Bool = λ n. is_junction x n.id in
    let yes : t (get_or x.nodes place node) ≡ true = sym (flag_of x flags place node e h is) ∙ flag in
    made ∙ (ap (λ l. l ++ j ∷ []) before ∙ (ap (λ k. map junction_row (filter t (take place x.nodes)) ++ k ∷ []) (row ∙ ap junction_row is) ∙ (sym (map-append junction_row (filter t (take place x.nodes)) (get_or x.nodes place node ∷ [])) ∙ ap (map junction_row) (ap (λ l. filter t (take place x.nodes) ++ l) (sym (cond-true _ (get_or x.nodes place node ∷ []) [] yes)) ∙ sym (filter_more t x.nodes place node h)))))

pub junction_no : (x : Extract) (flags : List Bool) (place : ℕ) (node : OsmNode) (js : List Junction) → flags ≡ map (λ n. is_junction x n.id) x.nodes → place < length x.nodes → node ≡ get_or x.nodes place node → get_or flags place false ≡ false → js ≡ map junction_row (filter (λ n. is_junction x n.id) (take place x.nodes)) → js ≡ map junction_row (filter (λ n. is_junction x n.id) (take (place + 1) x.nodes))
junction_no x flags place node js e h is flag before =
    let t : OsmNode → Bool = λ n. is_junction x n.id in
    let without : t (get_or x.nodes place node) ≡ false = sym (flag_of x flags place node e h is) ∙ flag in
    before ∙ ap (map junction_row) (sym (append-nil (filter t (take place x.nodes))) ∙ (ap (λ l. filter t (take place x.nodes) ++ l) (sym (cond-false _ (get_or x.nodes place node ∷ []) [] without)) ∙ sym (filter_more t x.nodes place node h)))
