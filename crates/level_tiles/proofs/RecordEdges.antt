-- The edge records of the work tiles of a table without turn restrictions and shortcuts are those of the folder, with the
-- offsets that the folder tells.
use Rattle.std.proofs.Common.{◌≡◌, ℕ, ◌+◌, refl, sym, ◌∙◌, ap, subst, List, [], ◌∷◌, ◌++◌, map, ℤ, false, arith}
use Rattle.std.specs.Prelude.{not, nat_eq, ◌&&◌}
use Rattle.std.specs.List.{flat_map, list_any, zip}
use Rattle.std.proofs.lemmas.List.{map-append}
use Rattle.graph_id.specs.GraphId.{value_of}
use Rattle.tile_records.specs.Edges.{EdgeFields}
use Rattle.osm_model.specs.declared.extract.Extract.{Extract}
use Rattle.road_pieces.specs.DirectedPiece.{DirectedPiece}
use Rattle.road_pieces.specs.Pieces.{piece_start, piece_end}
use Rattle.road_pieces.specs.Lengths.{piece_cm}
use Rattle.road_pieces.proofs.Members.{IsIn}
use Rattle.road_walks.specs.BaseEdges.{is_same, reverse_of}
use Rattle.folder_spec.specs.Links.{Link, base_link, edges_of}
use Rattle.folder_spec.specs.Chains.{IsLevelEdge, piece_level}
use Rattle.folder_spec.specs.FolderWalks.{link_cm}
use Rattle.folder_spec.specs.Tables.{NodeRow, TileRows, links_of, tile_rows_at, node_row_at, node_graph_id, first_index, same_link}
use Rattle.folder_spec.specs.Rows.{kept_at, links_at}
use Rattle.folder_spec.specs.Records.{is_shortcut, edge_fields, tile_from}
use Rattle.folder_spec.specs.Folder.{tile_number, is_in_chain}
use Rattle.work_tile.specs.declared.edge_rows.WorkEdge.{WorkEdge}
use Rattle.work_tile.specs.WorkRows.{WorkRows}
use Rattle.tile_numbers.specs.LookUps.{work_rows_at, node_index, opposing_index}
use Rattle.tile_numbers.specs.Records.{numbered_edge, numbered_edges, edge_records_of}
use Rattle.edge_builder.specs.ExtractRows.{node_tile, edge_of_extract, node_of_extract}
use Rattle.kept_rows.specs.KeptRows.{IsPlainTable, open_numbers, open_table, rows_of_table}
use Rattle.level_tiles.specs.LevelTiles.{nothing_given, told_so_far}
use Rattle.level_tiles.proofs.RecordPlaces.{none_has, alike_map, map_of_map, zip_maps}
use Rattle.level_tiles.proofs.RecordTable.{of_kept, starting, links_plain, IsBaseEdge, base_of}
use Rattle.level_tiles.proofs.EndsFound.{open_tiles, tile_at_end, node_at_end, opposing_found, opposing_local_found}

base_apart : (p : DirectedPiece) (ps : List DirectedPiece) → list_any (λ l. is_shortcut l && list_any (is_same p) (edges_of l)) (map base_link ps) ≡ false
base_apart p [] = refl
base_apart p (q ∷ ps) = base_apart p ps

module _ (x : Extract) (asked : ℕ) (plain : IsPlainTable (open_table x asked)) where
  -- no edge stands in a shortcut
  unchained : (p : DirectedPiece) → is_in_chain x asked open_numbers nothing_given p ≡ false
  unchained p =
      none_has (λ q. list_any (λ l. is_shortcut l && list_any (is_same p) (edges_of l)) (links_at x asked open_numbers [] (tile_number x asked open_numbers nothing_given) (piece_level x p) (piece_start x q))) (kept_at x asked open_numbers [] (tile_number x asked open_numbers nothing_given) (piece_level x p))
      (λ q h. ap (list_any (λ l. is_shortcut l && list_any (is_same p) (edges_of l))) (links_plain x asked plain (piece_level x p) (piece_start x q) q (of_kept x asked (piece_level x p) q h) refl)
      ∙ base_apart p (starting x asked (piece_level x p) (piece_start x q)))

  -- the record of a link of a tile, and the record of its edge among work tiles
  abbrev pub told_edge : TileRows → Link DirectedPiece → EdgeFields
  told_edge rows l = edge_fields x (told_so_far x asked) (open_table x asked) (node_tile x) rows l

  abbrev pub its_info : TileRows → Link DirectedPiece → ℕ
  its_info rows l = (told_so_far x asked).info rows.level rows.tile l.first

  abbrev built_edge : TileRows → WorkEdge × ℕ → EdgeFields
  built_edge rows (e, info) = numbered_edge rows.level rows.tile (work_rows_at (open_tiles x asked) rows.level e.end_tile) e info

  module _ (rows : TileRows) (p : DirectedPiece) (is : IsLevelEdge x asked rows.level p) where
    abbrev its_end : ℤ
    its_end = piece_end x p

    abbrev at_end : WorkRows
    at_end = work_rows_at (open_tiles x asked) rows.level (node_tile x rows.level its_end)

    -- the fields that are looked up
    ends_there : value_of rows.level (node_tile x rows.level its_end) (node_index at_end its_end) ≡ node_graph_id (open_table x asked) (node_tile x) its_end (piece_level x p)
    ends_there =
        ap (λ ws. value_of rows.level (node_tile x rows.level its_end) (node_index ws its_end)) (tile_at_end x asked rows.level (node_tile x rows.level its_end))
        ∙ (ap (value_of rows.level (node_tile x rows.level its_end)) (node_at_end x asked (tile_rows_at (open_table x asked) rows.level (node_tile x rows.level its_end)) its_end)
        ∙ ap (node_graph_id (open_table x asked) (node_tile x) its_end) (sym is.level_is))

    back_there : opposing_index at_end (edge_of_extract x rows.level p) ≡ first_index (same_link (base_link (reverse_of p))) (node_row_at (open_table x asked) (node_tile x) its_end (piece_level x p)).links
    back_there =
        opposing_found x asked plain rows.level p is ∙ ap (λ k. first_index (same_link (base_link (reverse_of p))) (node_row_at (open_table x asked) (node_tile x) its_end k).links) (sym is.level_is)

    -- the length of a link of one piece, a sum
    cm_is : (edge_of_extract x rows.level p).cm ≡ link_cm x (base_link p)
    cm_is = let e : piece_cm x p ≡ 0 + piece_cm x p = omega arith in e

    pub edge_is : built_edge rows (edge_of_extract x rows.level p, its_info rows (base_link p)) ≡ told_edge rows (base_link p)
    edge_is = λ i. record (told_edge rows (base_link p)) {
      end = ends_there i;
      opposing = back_there i;
      opposing_local = opposing_local_found x asked plain rows.level p is i;
      leaves_tile = not (nat_eq (node_tile x (sym is.level_is i) its_end) rows.tile);
      cm = cm_is i;
      in_chain = sym (unchained p) i;
    }

  -- the edges of nodes, node by node, are those of their links
  edges_of_links : (k : ℕ) (rs : List NodeRow) → flat_map (λ n. n.edges) (map (λ r. node_of_extract x k r.osm (map (λ l. l.first) r.links)) rs) ≡ map (λ l. edge_of_extract x k l.first) (flat_map (λ r. r.links) rs)
  edges_of_links k [] = refl
  edges_of_links k (r ∷ rs) =
      (λ i. map_of_map (λ l. l.first) (edge_of_extract x k) r.links i ++ edges_of_links k rs i)
      ∙ sym (map-append (λ l. edge_of_extract x k l.first) r.links (flat_map (λ s. s.links) rs))

  -- the edge records of a tile are the folder's
  pub edge_records_are : (rows : TileRows) → IsIn (open_table x asked).tiles rows → edge_records_of (open_tiles x asked) (rows_of_table x rows) (map (its_info rows) (links_of rows)) ≡ (tile_from x (told_so_far x asked) (open_table x asked) (node_tile x) rows).edges
  unfolding numbered_edges
  edge_records_are rows there =
      ap (λ es. map (built_edge rows) (zip es (map (its_info rows) (links_of rows)))) (edges_of_links rows.level rows.nodes)
      ∙ (ap (map (built_edge rows)) (zip_maps (λ l. edge_of_extract x rows.level l.first) (its_info rows) (links_of rows))
      ∙ (map_of_map (λ l. (edge_of_extract x rows.level l.first, its_info rows l)) (built_edge rows) (links_of rows)
      ∙ alike_map (λ l. built_edge rows (edge_of_extract x rows.level l.first, its_info rows l)) (told_edge rows) (links_of rows) (λ l h. each l (base_of x asked plain rows l there h))))
    where
      each : (l : Link DirectedPiece) → IsBaseEdge x asked plain rows.level l → built_edge rows (edge_of_extract x rows.level l.first, its_info rows l) ≡ told_edge rows l
      each l base =
          subst (λ k. built_edge rows (edge_of_extract x rows.level k.first, its_info rows k) ≡ told_edge rows k) base.link (edge_is rows base.piece base.is)
