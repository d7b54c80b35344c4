-- The table of an extract without turn restrictions and shortcuts: its tiles, its nodes, and the edges at a node. Nothing
-- of it is told by the turn restrictions, so nothing is asked of them.
use Rattle.std.proofs.Common.{◌≡◌, ℕ, ◌<◌, refl, sym, ◌∙◌, ap, subst, List, [], ◌∷◌, ◌++◌, length, map, get_or, ℤ, Bool, true, false, cond, inl, inr, arith}
use Rattle.std.specs.Prelude.{All, filter, not, nat_eq, nat_lt, nat_le, int_lt, ◌&&◌}
use Rattle.std.specs.Ordering.{int_eq}
use Rattle.std.specs.Cmp.{signed_Decides}
use Rattle.std.proofs.lemmas.Bool.{and_parts, cases_lt, eqb-true, eq-eqb}
use Rattle.std.proofs.lemmas.List.{get_or_past}
use Rattle.tile_geometry.specs.Grid.{class_level}
use Rattle.osm_model.specs.declared.extract.Extract.{Extract}
use Rattle.road_pieces.specs.DirectedPiece.{DirectedPiece}
use Rattle.road_pieces.specs.Pieces.{piece_start}
use Rattle.road_pieces.proofs.Members.{IsIn, in_left, in_flat, of_flat, in_map, of_map}
use Rattle.road_walks.specs.BaseEdges.{directed_pieces}
use Rattle.road_walks.proofs.Locals.{and_both, in_filter, in_directed}
use Rattle.road_walks.proofs.PiecesAre.{pieces_are}
use Rattle.road_walks.proofs.Sorted.{of_filter, in_rising, of_rising, numbers_connected, nodes_connected}
use Rattle.folder_spec.specs.Links.{Link, base_link, edges_of}
use Rattle.folder_spec.specs.Chains.{most_chain_edges, most_edge_cm, IsLevelEdge, piece_class, piece_level}
use Rattle.folder_spec.specs.FolderWalks.{from_node, to_node, link_cm}
use Rattle.folder_spec.specs.Tables.{NodeRow, TileRows, no_node, no_tile, first_index, is_tile, is_node, tile_rows_at, node_row_at, links_of}
use Rattle.folder_spec.specs.Rows.{keeps_piece, kept_at, level_edges_at, is_contractible, longest_chain, is_chain, links_at, row_at, nodes_in, tiles_on, rows_of, rows_on}
use Rattle.folder_spec.proofs.RowsLaw.{some_number, number_some}
use Rattle.edge_builder.specs.ExtractRows.{node_tile}
use Rattle.kept_rows.specs.KeptRows.{open_numbers, open_table, IsPlainTable}
use Rattle.level_tiles.proofs.RecordPlaces.{each_of_all, none_pass, first_passing, first_passing_has, index_inside}

-- each piece is of one of the three levels
abbrev pub levels : List ℕ
levels = 0 ∷ (1 ∷ (2 ∷ []))

pub level_listed : (class : ℕ) → IsIn levels (class_level class)
level_listed class = by (nat_le class 2) (nat_le class 4)
  where
    by : (a b : Bool) → IsIn levels (cond a 0 (cond b 1 2))
    by true b = inl refl
    by false true = inr (inl refl)
    by false false = inr (inr (inl refl))

-- a link of one edge is no chain
no_chain : (a b c d e f : Bool) (more : List DirectedPiece) → more ≡ [] → (a && (b && (c && (d && (nat_le 1 (length more) && (e && f)))))) ≡ false
no_chain a b c d e f more none =
    ap (λ ms. a && (b && (c && (d && (nat_le 1 (length ms) && (e && f)))))) none ∙ by a b c d
  where
    by : (a b c d : Bool) → (a && (b && (c && (d && false)))) ≡ false
    by true true true true = refl
    by true true true false = refl
    by true true false d = refl
    by true false c d = refl
    by false b c d = refl

module _ (x : Extract) (asked : ℕ) where
  -- the kept edges of a level; those that start at a junction
  abbrev kept : ℕ → List DirectedPiece
  kept k = kept_at x asked open_numbers [] (node_tile x) k

  abbrev pub starting : ℕ → ℤ → List DirectedPiece
  starting k n = level_edges_at x asked open_numbers [] (node_tile x) k n

  abbrev pub row_on : ℕ → ℤ → NodeRow
  row_on k n = row_at x asked open_numbers [] (node_tile x) k n

  abbrev pub tile_of_level : ℕ → ℕ → TileRows
  tile_of_level k c = rows_of x asked open_numbers [] (node_tile x) k c

  pub of_kept : (k : ℕ) (p : DirectedPiece) → IsIn (kept k) p → IsLevelEdge x asked k p
  of_kept k p h =
      let (there, passes) = of_filter (λ q. keeps_piece x asked open_numbers [] (node_tile x) q && nat_eq (piece_level x q) k) (directed_pieces x) p h in
      let (keep, level) = and_parts (keeps_piece x asked open_numbers [] (node_tile x) p) (nat_eq (piece_level x p) k) passes in
      record { kept = record { exists = pieces_are x p there; kept = some_number _ keep }; level_is = eqb-true (piece_level x p) k level }

  in_kept : (k : ℕ) (p : DirectedPiece) → IsLevelEdge x asked k p → IsIn (kept k) p
  in_kept k p is =
      in_filter (λ q. keeps_piece x asked open_numbers [] (node_tile x) q && nat_eq (piece_level x q) k) (directed_pieces x) p (in_directed x p is.kept.exists)
      (and_both _ _ (number_some _ is.kept.kept) (eq-eqb (piece_level x p) k is.level_is))

  pub of_starting : (k : ℕ) (n : ℤ) (p : DirectedPiece) → IsIn (starting k n) p → IsLevelEdge x asked k p × (piece_start x p ≡ n)
  of_starting k n p h =
      let (there, passes) = of_filter (λ q. int_eq (piece_start x q) n) (kept k) p h in
      (of_kept k p there, (signed_Decides (piece_start x p) n).0 passes)

  pub in_starting : (k : ℕ) (n : ℤ) (p : DirectedPiece) → IsLevelEdge x asked k p → piece_start x p ≡ n → IsIn (starting k n) p
  in_starting k n p is starts =
      in_filter (λ q. int_eq (piece_start x q) n) (kept k) p (in_kept k p is) ((signed_Decides (piece_start x p) n).1 starts)

  -- each tile is the one of its level and number, each node that of its level and junction
  pub rows_are : (rows : TileRows) → IsIn (open_table x asked).tiles rows → tile_of_level rows.level rows.tile ≡ rows
  rows_are rows there =
      let (k, (low, inside)) = of_flat (rows_on x asked open_numbers [] (node_tile x)) levels rows there in
      let (c, (on, same)) = of_map (tile_of_level k) (tiles_on x asked open_numbers [] (node_tile x) k) rows inside in
      subst (λ r. tile_of_level r.level r.tile ≡ r) same refl

  -- the junction of a node of a tile is one where an edge of the level starts, and lies in the tile
  pub record IsStart (k c : ℕ) (r : NodeRow) : Type 0 where
    pub piece : DirectedPiece
    pub is : IsLevelEdge x asked k piece
    pub starts : piece_start x piece ≡ r.osm
    pub row : row_on k r.osm ≡ r
    pub tile : node_tile x k r.osm ≡ c

  pub row_starts : (rows : TileRows) (r : NodeRow) → IsIn (open_table x asked).tiles rows → IsIn rows.nodes r → IsStart rows.level rows.tile r
  row_starts rows r there among =
      let nodes : List ℤ = nodes_in x asked open_numbers [] (node_tile x) rows.level rows.tile in
      let inside : IsIn (map (row_on rows.level) nodes) r = subst (λ s. IsIn s.nodes r) (sym (rows_are rows there)) among in
      let (n, (on, same)) = of_map (row_on rows.level) nodes r inside in
      let begun = map (piece_start x) (kept rows.level) in
      let (start, lies) = of_filter (λ m. nat_eq (node_tile x rows.level m) rows.tile) begun n (of_rising int_lt nodes_connected (filter (λ m. nat_eq (node_tile x rows.level m) rows.tile) begun) n on) in
      let (p, (kept_so, at)) = of_map (piece_start x) (kept rows.level) n start in
      let osm : n ≡ r.osm = ap (λ s. s.osm) same in
      record { piece = p; is = of_kept rows.level p kept_so; starts = at ∙ osm; row = subst (λ s. row_on rows.level s.osm ≡ s) same refl; tile = ap (node_tile x rows.level) (sym osm) ∙ eqb-true _ _ lies }

  -- the tile and the node of a junction where an edge of a level starts are found
  module _ (k : ℕ) (n : ℤ) (p : DirectedPiece) (is : IsLevelEdge x asked k p) (starts : piece_start x p ≡ n) where
    abbrev its_tile : ℕ
    its_tile = node_tile x k n

    tile_there : IsIn (open_table x asked).tiles (tile_of_level k its_tile)
    tile_there =
        in_flat (rows_on x asked open_numbers [] (node_tile x)) levels k (tile_of_level k its_tile) (subst (IsIn levels) is.level_is (level_listed (piece_class x p)))
        (in_map (tile_of_level k) (tiles_on x asked open_numbers [] (node_tile x) k) its_tile
        (in_rising nat_lt numbers_connected (map (λ q. node_tile x k (piece_start x q)) (kept k)) its_tile
        (subst (λ m. IsIn (map (λ q. node_tile x k (piece_start x q)) (kept k)) (node_tile x k m)) starts (in_map (λ q. node_tile x k (piece_start x q)) (kept k) p (in_kept k p is)))))

    node_there : IsIn (tile_of_level k its_tile).nodes (row_on k n)
    node_there =
        in_map (row_on k) (nodes_in x asked open_numbers [] (node_tile x) k its_tile) n
        (in_rising int_lt nodes_connected (filter (λ m. nat_eq (node_tile x k m) its_tile) (map (piece_start x) (kept k))) n
        (in_filter (λ m. nat_eq (node_tile x k m) its_tile) (map (piece_start x) (kept k)) n (subst (IsIn (map (piece_start x) (kept k))) starts (in_map (piece_start x) (kept k) p (in_kept k p is))) (eq-eqb its_tile its_tile refl)))

    tile_found : tile_rows_at (open_table x asked) k its_tile ≡ tile_of_level k its_tile
    tile_found =
        first_passing_has (is_tile k its_tile) (λ rows. rows ≡ tile_of_level k its_tile) (open_table x asked).tiles no_tile (tile_of_level k its_tile) tile_there (and_both _ _ (eq-eqb k k refl) (eq-eqb its_tile its_tile refl))
        (λ rows h passes.
        let (level, tile) = and_parts (nat_eq k rows.level) (nat_eq its_tile rows.tile) passes in
        sym (rows_are rows h) ∙ (λ i. tile_of_level (sym (eqb-true k rows.level level) i) (sym (eqb-true its_tile rows.tile tile) i)))

    pub level_found : (tile_rows_at (open_table x asked) k its_tile).level ≡ k
    level_found = ap (λ rows. rows.level) tile_found

    pub node_found : node_row_at (open_table x asked) (node_tile x) n k ≡ row_on k n
    node_found =
        ap (λ rows. get_or rows.nodes (first_index (is_node n) rows.nodes) no_node) tile_found
        ∙ first_passing_has (is_node n) (λ r. r ≡ row_on k n) (tile_of_level k its_tile).nodes no_node (row_on k n) node_there ((signed_Decides n n).1 refl)
        (λ r h passes.
        let (m, (on, same)) = of_map (row_on k) (nodes_in x asked open_numbers [] (node_tile x) k its_tile) r h in
        sym same ∙ ap (row_on k) (ap (λ s. s.osm) same ∙ sym ((signed_Decides n r.osm).0 passes)))

    pub index_within : first_index (is_node n) (tile_rows_at (open_table x asked) k its_tile).nodes < length (tile_rows_at (open_table x asked) k its_tile).nodes
    index_within =
        subst (λ (rows : TileRows). first_index (is_node n) rows.nodes < length rows.nodes) (sym tile_found)
        (index_inside (is_node n) (tile_of_level k its_tile).nodes (row_on k n) node_there ((signed_Decides n n).1 refl))

  -- where a node is found, an edge of the level starts at its junction
  pub start_of_found : (k : ℕ) (n : ℤ) → first_index (is_node n) (tile_rows_at (open_table x asked) k (node_tile x k n)).nodes < length (tile_rows_at (open_table x asked) k (node_tile x k n)).nodes → (p : DirectedPiece) × IsIn (starting k n) p
  start_of_found k n low =
      let (rows, (there, (level, at))) = tile_of_found in
      let r : NodeRow = get_or rows.nodes (first_index (is_node n) rows.nodes) no_node in
      let (among, passes) = first_passing (is_node n) rows.nodes no_node (subst (λ (t : TileRows). first_index (is_node n) t.nodes < length t.nodes) at low) in
      let start = row_starts rows r there among in
      let osm : r.osm ≡ n = sym ((signed_Decides n r.osm).0 passes) in
      (start.piece, in_starting k n start.piece (subst (λ l. IsLevelEdge x asked l start.piece) level start.is) (start.starts ∙ osm))
    where
      tile_of_found : (rows : TileRows) × (IsIn (open_table x asked).tiles rows × ((rows.level ≡ k) × (tile_rows_at (open_table x asked) k (node_tile x k n) ≡ rows)))
      tile_of_found =
          let test = is_tile k (node_tile x k n) in
          let tiles = (open_table x asked).tiles in
          elim (cases_lt (first_index test tiles) (length tiles)) [
            | inl inside ↦ (
                let (there, passes) = first_passing test tiles no_tile inside in
                let (level, tile) = and_parts (nat_eq k (get_or tiles (first_index test tiles) no_tile).level) (nat_eq (node_tile x k n) (get_or tiles (first_index test tiles) no_tile).tile) passes in
                (get_or tiles (first_index test tiles) no_tile, (there, (sym (eqb-true k _ level), refl)))
                )
            | inr past ↦ absurd (let none = get_or_past tiles (first_index test tiles) no_tile past in let low2 = subst (λ (t : TileRows). first_index (is_node n) t.nodes < length t.nodes) none low in omega (arith, low2))
          ]

  -- in the table no link is a shortcut: the links of a node are its kept edges
  module _ (plain : IsPlainTable (open_table x asked)) where
    pub links_of_row : (rows : TileRows) (r : NodeRow) → IsIn (open_table x asked).tiles rows → IsIn rows.nodes r → r.links ≡ map base_link (starting rows.level r.osm)
    links_of_row rows r there among =
        let n = r.osm in
        let start = row_starts rows r there among in
        let chains = map (longest_chain x asked open_numbers [] (node_tile x) rows.level) (starting rows.level n) in
        let test = is_chain x asked open_numbers [] (node_tile x) rows.level in
        let same : r.links ≡ filter test chains ++ map base_link (starting rows.level n) = ap (λ (s : NodeRow). s.links) (sym start.row) in
        let none : filter test chains ≡ [] = none_pass test chains (λ l h. by l (test l) refl h same) in
        same ∙ ap (λ ls. ls ++ map base_link (starting rows.level n)) none
      where
        no_more : (l : Link DirectedPiece) → IsIn r.links l → l.more ≡ []
        no_more l h =
            each_of_all (λ (k : Link DirectedPiece). k.more ≡ []) r.links l
            (each_of_all (λ (s : NodeRow). All (λ (k : Link DirectedPiece). k.more ≡ []) s.links) rows.nodes r (each_of_all (λ (t : TileRows). All (λ (s : NodeRow). All (λ (k : Link DirectedPiece). k.more ≡ []) s.links) t.nodes) (open_table x asked).tiles rows plain.links there) among) h

        by : (l : Link DirectedPiece) (b : Bool) → is_chain x asked open_numbers [] (node_tile x) rows.level l ≡ b → IsIn (map (longest_chain x asked open_numbers [] (node_tile x) rows.level) (starting rows.level r.osm)) l
            → r.links ≡ filter (is_chain x asked open_numbers [] (node_tile x) rows.level) (map (longest_chain x asked open_numbers [] (node_tile x) rows.level) (starting rows.level r.osm)) ++ map base_link (starting rows.level r.osm)
            → is_chain x asked open_numbers [] (node_tile x) rows.level l ≡ false
        by l false fails h same = fails
        by l true passes h same =
            no_chain (nat_le rows.level 1) (not (int_eq (from_node x l) (to_node x l))) (not (is_contractible x asked open_numbers [] (node_tile x) rows.level (from_node x l))) (not (is_contractible x asked open_numbers [] (node_tile x) rows.level (to_node x l)))
            (nat_le (length (edges_of l)) most_chain_edges) (nat_le (link_cm x l) most_edge_cm) l.more (no_more l (subst (λ ls. IsIn ls l) (sym same)
            (in_left (filter (is_chain x asked open_numbers [] (node_tile x) rows.level) (map (longest_chain x asked open_numbers [] (node_tile x) rows.level) (starting rows.level r.osm))) (map base_link (starting rows.level r.osm)) l
            (in_filter (is_chain x asked open_numbers [] (node_tile x) rows.level) (map (longest_chain x asked open_numbers [] (node_tile x) rows.level) (starting rows.level r.osm)) l h passes))))

    pub links_plain : (k : ℕ) (n : ℤ) (p : DirectedPiece) → IsLevelEdge x asked k p → piece_start x p ≡ n → links_at x asked open_numbers [] (node_tile x) k n ≡ map base_link (starting k n)
    links_plain k n p is starts = links_of_row (tile_of_level k (node_tile x k n)) (row_on k n) (tile_there k n p is starts) (node_there k n p is starts)

    -- a link of a tile is a kept edge of its level
    pub record IsBaseEdge (k : ℕ) (l : Link DirectedPiece) : Type 0 where
      pub piece : DirectedPiece
      pub is : IsLevelEdge x asked k piece
      pub link : base_link piece ≡ l

    pub base_of : (rows : TileRows) (l : Link DirectedPiece) → IsIn (open_table x asked).tiles rows → IsIn (links_of rows) l → IsBaseEdge rows.level l
    base_of rows l there h =
        let (r, (among, inside)) = of_flat (λ (s : NodeRow). s.links) rows.nodes l h in
        let (p, (on, same)) = of_map base_link (starting rows.level r.osm) l (subst (λ ls. IsIn ls l) (links_of_row rows r there among) inside) in
        let (is, starts) = of_starting rows.level r.osm p on in
        record { piece = p; is = is; link = same }
