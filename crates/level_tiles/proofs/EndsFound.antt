-- The end of an edge, and its opposing edge, as the look-ups among work tiles find them, are those that the table tells.
use Rattle.std.proofs.Common.{◌≡◌, ℕ, refl, sym, ◌∙◌, ap, List, [], ◌∷◌, map, get_or, ℤ, Bool, true, false}
use Rattle.std.specs.Prelude.{unwrap_or, ◌&&◌}
use Rattle.std.specs.List.{position, find}
use Rattle.std.specs.Option.{option_map}
use Rattle.std.specs.Ordering.{int_eq}
use Rattle.osm_model.specs.declared.extract.Extract.{Extract}
use Rattle.road_pieces.specs.DirectedPiece.{DirectedPiece}
use Rattle.road_pieces.specs.Pieces.{piece_end}
use Rattle.road_pieces.proofs.Members.{IsIn}
use Rattle.road_walks.specs.BaseEdges.{is_same, local_index, reverse_of}
use Rattle.road_walks.proofs.Locals.{same_itself, same_only}
use Rattle.road_walks.proofs.Reverses.{back_starts, kept_back}
use Rattle.folder_spec.specs.Links.{base_link}
use Rattle.folder_spec.specs.Chains.{IsLevelEdge}
use Rattle.folder_spec.specs.Tables.{TileRows, no_node, no_tile, first_index, is_tile, is_node, same_link, tile_rows_at, node_row_at}
use Rattle.work_tile.specs.WorkRows.{WorkRows}
use Rattle.tile_numbers.specs.LookUps.{no_rows, no_work_node, has_tile_number, work_rows_at, node_index, runs_back, edges_at_end, opposing_index, opposing_local_index}
use Rattle.edge_builder.specs.ExtractRows.{node_tile, edge_of_extract, node_of_extract}
use Rattle.kept_rows.specs.KeptRows.{IsPlainTable, open_table, rows_of_table}
use Rattle.level_tiles.proofs.RecordPlaces.{field_of_place, place_alike, index_alike, found_index, found_value}
use Rattle.level_tiles.proofs.RecordTable.{starting, links_plain, of_starting, in_starting, node_found, level_found}
use Rattle.level_tiles.proofs.EndsAlike.{runs_back_is}

module _ (x : Extract) (asked : ℕ) where
  -- the tiles of the table as work tiles
  abbrev pub open_tiles : List WorkRows
  open_tiles = map (rows_of_table x) (open_table x asked).tiles

  pub tile_at_end : (level tile : ℕ) → work_rows_at open_tiles level tile ≡ rows_of_table x (tile_rows_at (open_table x asked) level tile)
  tile_at_end level tile =
      ap (λ k. get_or open_tiles k no_rows) (place_alike (rows_of_table x) (has_tile_number level tile) (is_tile level tile) (open_table x asked).tiles (λ rows h. refl))
      ∙ field_of_place (rows_of_table x) (λ rows. rows) (rows_of_table x) (open_table x asked).tiles (first_index (is_tile level tile) (open_table x asked).tiles) no_rows no_tile (λ rows. refl) refl

  pub node_at_end : (rows : TileRows) (n : ℤ) → node_index (rows_of_table x rows) n ≡ first_index (is_node n) rows.nodes
  node_at_end rows n =
      place_alike (λ r. node_of_extract x rows.level r.osm (map (λ l. l.first) r.links)) (λ m. int_eq n m.osm) (is_node n) rows.nodes (λ r h. refl)

  module _ (plain : IsPlainTable (open_table x asked)) (k : ℕ) (p : DirectedPiece) (is : IsLevelEdge x asked k p) where
    abbrev back : DirectedPiece
    back = reverse_of p

    abbrev end : ℤ
    end = piece_end x p

    abbrev there : List DirectedPiece
    there = starting x asked k end

    back_is : IsLevelEdge x asked k back
    back_is = record { kept = kept_back x asked p is.kept; level_is = is.level_is }

    back_there : IsIn there back
    back_there = in_starting x asked k end back back_is (back_starts x p)

    -- the links at the end are the edges that start there
    links_there : (node_row_at (open_table x asked) (node_tile x) end k).links ≡ map base_link there
    links_there =
        ap (λ r. r.links) (node_found x asked k end back back_is (back_starts x p)) ∙ links_plain x asked plain k end back back_is (back_starts x p)

    edges_there : edges_at_end (work_rows_at open_tiles k (node_tile x k end)) (edge_of_extract x k p) ≡ map (edge_of_extract x k) there
    edges_there =
        let rows : TileRows = tile_rows_at (open_table x asked) k (node_tile x k end) in
        ap (λ ws. edges_at_end ws (edge_of_extract x k p)) (tile_at_end k (node_tile x k end))
        ∙ (ap (λ j. (get_or (rows_of_table x rows).nodes j no_work_node).edges) (node_at_end rows end)
        ∙ (field_of_place (λ r. node_of_extract x rows.level r.osm (map (λ l. l.first) r.links)) (λ m. m.edges) (λ r. map (edge_of_extract x rows.level) (map (λ l. l.first) r.links)) rows.nodes (first_index (is_node end) rows.nodes) no_work_node no_node (λ r. refl) refl
        ∙ (ap (λ j. map (edge_of_extract x j) (map (λ l. l.first) (node_row_at (open_table x asked) (node_tile x) end k).links)) (level_found x asked k end back back_is (back_starts x p))
        ∙ (ap (λ ls. map (edge_of_extract x k) (map (λ l. l.first) ls)) links_there
        ∙ ap (map (edge_of_extract x k)) (firsts there)))))
      where
        firsts : (ps : List DirectedPiece) → map (λ l. l.first) (map base_link ps) ≡ ps
        firsts [] = refl
        firsts (q ∷ ps) = ap (λ l. q ∷ l) (firsts ps)

    alike : (q : DirectedPiece) → IsIn there q → runs_back (edge_of_extract x k p).key (edge_of_extract x k q) ≡ is_same back q
    alike q h = let (its, starts) = of_starting x asked k end q h in runs_back_is x k p q is.kept.exists its.kept.exists

    linked : (q : DirectedPiece) → same_link (base_link back) (base_link q) ≡ is_same back q
    linked q = by (is_same back q)
      where
        by : (b : Bool) → (b && true) ≡ b
        by true = refl
        by false = refl

    pub opposing_found : opposing_index (work_rows_at open_tiles k (node_tile x k end)) (edge_of_extract x k p) ≡ first_index (same_link (base_link back)) (node_row_at (open_table x asked) (node_tile x) end k).links
    opposing_found =
        ap (λ es. unwrap_or (position (runs_back (edge_of_extract x k p).key) es) 0) edges_there
        ∙ (found_index (edge_of_extract x k) (runs_back (edge_of_extract x k p).key) (is_same back) there back back_there (same_itself back) alike
        ∙ (sym (index_alike base_link (same_link (base_link back)) (is_same back) there (λ q h. linked q))
        ∙ ap (first_index (same_link (base_link back))) (sym links_there)))

    pub opposing_local_found : opposing_local_index (work_rows_at open_tiles k (node_tile x k end)) (edge_of_extract x k p) ≡ local_index x back
    opposing_local_found =
        ap (λ es. unwrap_or (option_map (λ f. f.local) (find (runs_back (edge_of_extract x k p).key) es)) 0) edges_there
        ∙ found_value (edge_of_extract x k) (runs_back (edge_of_extract x k p).key) (is_same back) (λ f. f.local) (local_index x back) there back back_there (same_itself back) alike
        (λ q h same. ap (local_index x) (sym (same_only back q same)))
