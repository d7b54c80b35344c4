-- The node records and the transitions of the work tiles of a table without turn restrictions and shortcuts are those of
-- the folder; and the folder has no chains and sequences there.
use Rattle.std.proofs.Common.{◌≡◌, ℕ, ◌+◌, refl, ◌∙◌, ap, List, [], ◌∷◌, length, map, ℤ, true, false, cond, inl, inr}
use Rattle.std.specs.Prelude.{All, filter, not, nat_eq, nat_lt}
use Rattle.std.proofs.lemmas.Bool.{both_ways, lt-ltb, ltb-true}
use Rattle.std.proofs.lemmas.List.{length-map}
use Rattle.std.proofs.lemmas.List.Folds.{flat_map-map}
use Rattle.graph_id.specs.GraphId.{value_of}
use Rattle.osm_model.specs.declared.extract.Extract.{Extract}
use Rattle.road_pieces.specs.DirectedPiece.{DirectedPiece}
use Rattle.road_pieces.proofs.Members.{IsIn, of_flat}
use Rattle.road_walks.specs.Orders.{rising, sequence_below, not_none}
use Rattle.tile_records.specs.Nodes.{NodeFields}
use Rattle.folder_spec.specs.Links.{Link, base_link, edges_of}
use Rattle.folder_spec.specs.Tables.{NodeRow, TileRows, first_index, is_node, links_of, tile_rows_at, node_graph_id, link_graph_id}
use Rattle.folder_spec.specs.Records.{is_shortcut, transitions_of, node_fields, node_records, sequence_row_of, starts_in, tile_from}
use Rattle.work_tile.specs.WorkRows.{WorkNode}
use Rattle.tile_numbers.specs.LookUps.{node_in, node_on_level, node_on_other, other_nodes}
use Rattle.tile_numbers.specs.Records.{numbered_node, numbered_nodes, node_records_of, transitions_of_rows}
use Rattle.edge_builder.specs.ExtractRows.{node_tile, edge_of_extract, node_of_extract}
use Rattle.kept_rows.specs.KeptRows.{IsPlainTable, open_table, rows_of_table}
use Rattle.level_tiles.specs.LevelTiles.{told_so_far}
use Rattle.level_tiles.proofs.RecordPlaces.{same_bools, each_of_all, none_pass, flat_alike, flat_filter}
use Rattle.level_tiles.proofs.RecordTable.{levels, starting, of_starting, row_starts, index_within, start_of_found}
use Rattle.level_tiles.proofs.EndsFound.{open_tiles, tile_at_end, node_at_end}

some_none : {E : Type 0} (es : List E) → not_none es ≡ true → (e : E) × IsIn es e
some_none [] h = absurd (both_ways false refl h)
some_none (e ∷ es) h = (e, inl refl)

module _ (x : Extract) (asked : ℕ) where
  abbrev node_with : ℕ → NodeRow → WorkNode
  node_with k r = node_of_extract x k r.osm (map (λ l. l.first) r.links)

  abbrev shifts : NodeRow → List ℕ
  shifts r = transitions_of x (told_so_far x asked) (open_table x asked) (node_tile x) r

  abbrev told_nodes : ℕ → ℕ → List NodeRow → List NodeFields
  told_nodes edges transitions rs = node_records x (told_so_far x asked) (open_table x asked) (node_tile x) edges transitions rs

  -- ---- transitions

  -- a junction has a node on a level exactly where an edge of the level starts
  node_there : (l : ℕ) (n : ℤ) → nat_lt (first_index (is_node n) (tile_rows_at (open_table x asked) l (node_tile x l n)).nodes) (length (tile_rows_at (open_table x asked) l (node_tile x l n)).nodes) ≡ not_none (starting x asked l n)
  node_there l n = same_bools _ _ to back
    where
      to : nat_lt (first_index (is_node n) (tile_rows_at (open_table x asked) l (node_tile x l n)).nodes) (length (tile_rows_at (open_table x asked) l (node_tile x l n)).nodes) ≡ true → not_none (starting x asked l n) ≡ true
      to h = let (p, there) = start_of_found x asked l n (ltb-true _ _ h) in some (starting x asked l n) p there
        where
          some : (ps : List DirectedPiece) (p : DirectedPiece) → IsIn ps p → not_none ps ≡ true
          some [] p h = absurd h
          some (q ∷ ps) p h = refl

      back : not_none (starting x asked l n) ≡ true → nat_lt (first_index (is_node n) (tile_rows_at (open_table x asked) l (node_tile x l n)).nodes) (length (tile_rows_at (open_table x asked) l (node_tile x l n)).nodes) ≡ true
      back h =
          let (p, there) = some_none (starting x asked l n) h in
          let (is, starts) = of_starting x asked l n p there in
          lt-ltb _ _ (index_within x asked l n p is starts)

  -- .. and so the look-up among work tiles finds it
  on_level : (l : ℕ) (k : ℕ) (r : NodeRow) → node_on_level (open_tiles x asked) l (node_with k r) ≡ cond (not_none (starting x asked l r.osm)) (node_graph_id (open_table x asked) (node_tile x) r.osm l ∷ []) []
  on_level l k r =
      let n = r.osm in
      let tile = node_tile x l n in
      let rows = tile_rows_at (open_table x asked) l tile in
      let at = node_at_end x asked rows n in
      let many = length-map rows.nodes (node_with rows.level) in
      ap (λ ws. node_in ws l tile n) (tile_at_end x asked l tile)
      ∙ ((λ i. cond (nat_lt (at i) (many i)) (value_of l tile (at i) ∷ []) [])
      ∙ ap (λ b. cond b (node_graph_id (open_table x asked) (node_tile x) n l ∷ []) []) (node_there l n))

  others_are : (rows : TileRows) (r : NodeRow) → IsIn (open_table x asked).tiles rows → IsIn rows.nodes r → other_nodes (open_tiles x asked) rows.level (node_with rows.level r) ≡ shifts r
  unfolding other_nodes
  others_are rows r there among =
      let k = rows.level in
      let start = row_starts x asked rows r there among in
      flat_alike (node_on_other (open_tiles x asked) k (node_with k r)) (λ l. cond (nat_eq l k) [] (cond (not_none (starting x asked l r.osm)) (node_graph_id (open_table x asked) (node_tile x) r.osm l ∷ []) [])) levels
      (λ l h. ap (cond (nat_eq l k) []) (on_level l k r))
      ∙ flat_filter (λ l. nat_eq l k) (λ l. not_none (starting x asked l r.osm)) (node_graph_id (open_table x asked) (node_tile x) r.osm) levels
      ∙ ap (λ (s : NodeRow). map (node_graph_id (open_table x asked) (node_tile x) r.osm) s.levels) start.row

  -- ---- nodes

  edges_counted : (k : ℕ) (r : NodeRow) → length (node_with k r).edges ≡ length r.links
  edges_counted k r = length-map (map (λ l. l.first) r.links) (edge_of_extract x k) ∙ length-map r.links (λ l. l.first)

  nodes_are : (k edges transitions : ℕ) (rs : List NodeRow) → ((r : NodeRow) → IsIn rs r → other_nodes (open_tiles x asked) k (node_with k r) ≡ shifts r)
      → numbered_nodes (open_tiles x asked) k edges transitions (map (node_with k) rs) ≡ told_nodes edges transitions rs
  nodes_are k edges transitions [] same = refl
  nodes_are k edges transitions (r ∷ rs) same =
      let counted = edges_counted k r in
      let others = other_nodes (open_tiles x asked) k (node_with k r) in
      let shifted : length others ≡ length (shifts r) = ap length (same r (inl refl)) in
      let first : numbered_node edges transitions (length others) (node_with k r) ≡ node_fields x (told_so_far x asked) (open_table x asked) (node_tile x) edges transitions r =
      λ i. record (numbered_node edges transitions (length others) (node_with k r)) { edge_count = counted i; transition_count = shifted i } in
      let rest : numbered_nodes (open_tiles x asked) k (edges + length (node_with k r).edges) (transitions + length others) (map (node_with k) rs) ≡ told_nodes (edges + length r.links) (transitions + length (shifts r)) rs =
      nodes_are k (edges + length (node_with k r).edges) (transitions + length others) rs (λ s h. same s (inr h))
      ∙ (λ i. told_nodes (edges + counted i) (transitions + shifted i) rs) in
      λ i. first i ∷ rest i

  module _ (plain : IsPlainTable (open_table x asked)) (rows : TileRows) (there : IsIn (open_table x asked).tiles rows) where
    no_more : (l : Link DirectedPiece) → IsIn (links_of rows) l → l.more ≡ []
    no_more l h =
        let (r, (among, inside)) = of_flat (λ (s : NodeRow). s.links) rows.nodes l h in
        each_of_all (λ (k : Link DirectedPiece). k.more ≡ []) r.links l
        (each_of_all (λ (s : NodeRow). All (λ (k : Link DirectedPiece). k.more ≡ []) s.links) rows.nodes r (each_of_all (λ (t : TileRows). All (λ (s : NodeRow). All (λ (k : Link DirectedPiece). k.more ≡ []) s.links) t.nodes) (open_table x asked).tiles rows plain.links there) among) inside

    -- the node records and the transitions of a tile are the folder's
    pub node_records_are : node_records_of (open_tiles x asked) (rows_of_table x rows) ≡ (tile_from x (told_so_far x asked) (open_table x asked) (node_tile x) rows).nodes
    node_records_are = nodes_are rows.level 0 0 rows.nodes (λ r h. others_are rows r there h)

    pub transitions_are : transitions_of_rows (open_tiles x asked) (rows_of_table x rows) ≡ (tile_from x (told_so_far x asked) (open_table x asked) (node_tile x) rows).transitions
    transitions_are =
        flat_map-map (other_nodes (open_tiles x asked) rows.level) (node_with rows.level) rows.nodes
        ∙ flat_alike (λ r. other_nodes (open_tiles x asked) rows.level (node_with rows.level r)) shifts rows.nodes (λ r h. others_are rows r there h)

    -- what isn't built is none there
    pub chains_none : (tile_from x (told_so_far x asked) (open_table x asked) (node_tile x) rows).chains ≡ []
    chains_none =
        ap (map (λ l. map (λ p. link_graph_id x (open_table x asked) (node_tile x) (base_link p)) (edges_of l)))
        (none_pass is_shortcut (links_of rows) (λ l h. ap (λ ps. not (nat_eq (length ps) 0)) (no_more l h)))

    pub sequences_none : (tile_from x (told_so_far x asked) (open_table x asked) (node_tile x) rows).sequences ≡ []
    sequences_none =
        ap (λ ss. rising sequence_below (map (sequence_row_of x (told_so_far x asked) (open_table x asked) (node_tile x)) (filter (starts_in x (told_so_far x asked) (open_table x asked) (node_tile x) rows) ss))) plain.sequences
