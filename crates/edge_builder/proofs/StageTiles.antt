-- The base tiles of an extract are the first stage of a build, tile by tile.
use Rattle.std.proofs.Common.{◌≡◌, ℕ, suc, ◌<◌, refl, sym, ◌∙◌, ap, subst, List, [], ◌∷◌, map, filter, length, get_or, ℤ, pos, negsuc, true, nat_eq, nat_lt, inl, inr, arith, eqb-true, eq-eqb, lt-ltb}
use Rattle.std.proofs.lemmas.Int.{ints}
use Rattle.std.specs.Prelude.{◌<ℤ◌, AllPairs, int_lt}
use Rattle.std.proofs.lemmas.List.Kept.{AllPairs-filter}
use Rattle.osm_model.specs.declared.extract.Extract.{Extract}
use Rattle.road_pieces.specs.declared.rows.Junction.{Junction}
use Rattle.road_pieces.specs.declared.rows.Piece.{Piece}
use Rattle.road_pieces.specs.DirectedPiece.{DirectedPiece}
use Rattle.road_pieces.specs.Pieces.{piece_start}
use Rattle.road_pieces.specs.Rows.{junction_rows, piece_rows}
use Rattle.road_pieces.proofs.Members.{IsIn, in_at, at_in, in_map, of_map}
use Rattle.road_walks.specs.BaseEdges.{directed_pieces}
use Rattle.road_walks.specs.Orders.{rising}
use Rattle.road_walks.specs.Stages.{nodes_by, stage_tiles, stage_node, stage_tile, stage}
use Rattle.road_walks.proofs.Locals.{in_filter, in_directed}
use Rattle.road_walks.proofs.Sorted.{Sorted, of_filter, in_rising, of_rising, numbers_connected, nodes_connected, below_self, below_on, node_never, node_on, one_sorted, rising_sorted}
use Rattle.edge_builder.specs.BaseRows.{row_start, junction_tile, junction_place}
use Rattle.edge_builder.specs.BaseTiles.{base_node, junctions_in, base_tile, base_tiles_of}
use Rattle.edge_builder.specs.ExtractRows.{node_tile, node_of_extract, rows_of_stage}
use Rattle.edge_builder.specs.BaseStages.{BaseStage}
use Rattle.edge_builder.proofs.JunctionLemmas.{no_junction, id_there}
use Rattle.edge_builder.proofs.PieceStarts.{piece_there}
use Rattle.edge_builder.proofs.RoadLemmas.{joined, rise}
use Rattle.edge_builder.proofs.RowJunctions.{start_inside}
use Rattle.edge_builder.proofs.StageRows.{row_of_extract, row_starts}
use Rattle.edge_builder.proofs.StageEdges.{IsRowOf, junction_of, tile_told, row_listed, node_told}

less_ids : (a b : ℤ) → a <ℤ b → int_lt a b ≡ true
less_ids (pos a) (pos b) h = lt-ltb a b (omega (arith, ints, h))
less_ids (pos a) (negsuc b) h = absurd (omega (arith, ints, h))
less_ids (negsuc a) (pos b) h = refl
less_ids (negsuc a) (negsuc b) h = lt-ltb b a (omega (arith, ints, h))

ids_sorted : (is : List Junction) → AllPairs (λ a b. a.osm <ℤ b.osm) is → Sorted int_lt nodes_connected node_never node_on (map (λ j. j.osm) is)
ids_sorted [] h = tt
ids_sorted (j ∷ is) h = (
  λ n k. let (i, (there, e)) = of_map (λ j. j.osm) is n k in
      let (q, (low, at)) = at_in is i there in
      subst (λ m. int_lt j.osm m ≡ true) e (less_ids j.osm i.osm (subst (λ u. j.osm <ℤ u.osm) (at j) (h 0 (suc q) j (omega arith) (omega (arith, low))))),
  ids_sorted is (λ a b d l m. h (suc a) (suc b) d (omega (arith, l)) (omega (arith, m))),
)

module _ (x : Extract) where
  abbrev js : List Junction
  js = junction_rows x

  abbrev ps : List Piece
  ps = piece_rows x

  abbrev ds : List DirectedPiece
  ds = directed_pieces x

  -- each directed piece starts at a junction of the list
  start_row : (p : DirectedPiece) → IsIn ds p → (j : Junction) × (IsIn js j × (j.osm ≡ piece_start x p))
  start_row p h =
      let place = junction_place js (row_start (row_of_extract x p)) in
      let low : place < length js = start_inside js ps (row_of_extract x p) (joined x) (row_listed x p h) in
      (get_or js place no_junction, (in_at js place no_junction (get_or js place no_junction) low refl, id_there js (row_start (row_of_extract x p)) no_junction low ∙ row_starts x p))

  -- at each junction of the list a directed piece starts
  row_start_there : (j : Junction) → IsIn js j → (p : DirectedPiece) × (IsIn ds p × (piece_start x p ≡ j.osm))
  row_start_there j h =
      let row : IsRowOf x j = junction_of x j h in
      let (p, (piece, starts)) = piece_there x row.node.id row.passes in
      (p, (in_directed x p piece, starts ∙ ap (λ k. k.osm) row.is))

  abbrev tile_from : DirectedPiece → ℕ
  tile_from p = node_tile x 2 (piece_start x p)

  tiles_are : rising nat_lt (map junction_tile js) ≡ stage_tiles x (node_tile x) ds 2
  tiles_are =
      one_sorted nat_lt numbers_connected below_self below_on (rising nat_lt (map junction_tile js)) (rising nat_lt (map tile_from ds))
      (rising_sorted nat_lt numbers_connected below_self below_on (map junction_tile js)) (rising_sorted nat_lt numbers_connected below_self below_on (map tile_from ds))
      (λ c h. let (j, (there, tile)) = of_map junction_tile js c (of_rising nat_lt numbers_connected (map junction_tile js) c h) in
      let (p, (inside, starts)) = row_start_there j there in
      in_rising nat_lt numbers_connected (map tile_from ds) c (subst (IsIn (map tile_from ds)) (ap (node_tile x 2) starts ∙ (sym (tile_told x j there) ∙ tile)) (in_map tile_from ds p inside)))
      (λ c h. let (p, (inside, tile)) = of_map tile_from ds c (of_rising nat_lt numbers_connected (map tile_from ds) c h) in
      let (j, (there, starts)) = start_row p inside in
      in_rising nat_lt numbers_connected (map junction_tile js) c (subst (IsIn (map junction_tile js)) (tile_told x j there ∙ (ap (node_tile x 2) starts ∙ tile)) (in_map junction_tile js j there)))

  abbrev ids_in : ℕ → List ℤ
  ids_in c = map (λ j. j.osm) (junctions_in js c)

  abbrev starts_in : ℕ → List ℤ
  starts_in c = filter (λ n. nat_eq (node_tile x 2 n) c) (map (piece_start x) ds)

  nodes_are : (c : ℕ) → ids_in c ≡ nodes_by x (node_tile x) ds 2 c
  nodes_are c =
      one_sorted int_lt nodes_connected node_never node_on (ids_in c) (rising int_lt (starts_in c))
      (ids_sorted (junctions_in js c) (AllPairs-filter (λ a b. a.osm <ℤ b.osm) (λ j. nat_eq (junction_tile j) c) js (rise x)))
      (rising_sorted int_lt nodes_connected node_never node_on (starts_in c))
      (λ n h. let (j, (kept, id)) = of_map (λ j. j.osm) (junctions_in js c) n h in
      let (there, tile) = of_filter (λ j. nat_eq (junction_tile j) c) js j kept in
      let (p, (inside, starts)) = row_start_there j there in
      let start : piece_start x p ≡ n = starts ∙ id in
      let its_tile : node_tile x 2 n ≡ c = ap (node_tile x 2) (sym id) ∙ (sym (tile_told x j there) ∙ eqb-true (junction_tile j) c tile) in
      in_rising int_lt nodes_connected (starts_in c) n (in_filter (λ m. nat_eq (node_tile x 2 m) c) (map (piece_start x) ds) n (subst (IsIn (map (piece_start x) ds)) start (in_map (piece_start x) ds p inside)) (eq-eqb (node_tile x 2 n) c its_tile)))
      (λ n h. let (listed, tile) = of_filter (λ m. nat_eq (node_tile x 2 m) c) (map (piece_start x) ds) n (of_rising int_lt nodes_connected (starts_in c) n h) in
      let (p, (inside, starts)) = of_map (piece_start x) ds n listed in
      let (j, (there, id)) = start_row p inside in
      let its_tile : junction_tile j ≡ c = tile_told x j there ∙ (ap (node_tile x 2) (id ∙ starts) ∙ eqb-true (node_tile x 2 n) c tile) in
      subst (IsIn (ids_in c)) (id ∙ starts) (in_map (λ j. j.osm) (junctions_in js c) j (in_filter (λ j. nat_eq (junction_tile j) c) js j there (eq-eqb (junction_tile j) c its_tile))))

  nodes_told : (is : List Junction) → ((j : Junction) → IsIn is j → IsIn js j) → map (base_node js ps) is ≡ map (λ n. node_of_extract x 2 n.osm n.edges) (map (stage_node x (node_tile x) ds) (map (λ j. j.osm) is))
  nodes_told [] inside = refl
  nodes_told (j ∷ is) inside = λ i. node_told x j (inside j (inl refl)) i ∷ nodes_told is (λ k h. inside k (inr h)) i

  rows_are : (c : ℕ) → base_tile js ps c ≡ rows_of_stage x (stage_tile x (node_tile x) ds 2 c)
  rows_are c =
      let nodes = nodes_told (junctions_in js c) (λ j h. (of_filter (λ k. nat_eq (junction_tile k) c) js j h).0)
      ∙ ap (λ ns. map (λ n. node_of_extract x 2 n.osm n.edges) (map (stage_node x (node_tile x) ds) ns)) (nodes_are c) in
      λ i. record { level = 2; tile = c; nodes = nodes i }

  tiles_told : (cs : List ℕ) → map (base_tile js ps) cs ≡ map (rows_of_stage x) (map (stage_tile x (node_tile x) ds 2) cs)
  tiles_told [] = refl
  tiles_told (c ∷ cs) = λ i. rows_are c i ∷ tiles_told cs i

  stage_is : base_tiles_of js ps ≡ map (rows_of_stage x) (stage x (node_tile x) ds 2)
  stage_is = tiles_told (rising nat_lt (map junction_tile js)) ∙ ap (λ cs. map (rows_of_stage x) (map (stage_tile x (node_tile x) ds 2) cs)) tiles_are

pub base_stage_is : BaseStage
base_stage_is x = stage_is x
