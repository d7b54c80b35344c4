-- The entries and the texts of a tile of lifted rows are those of the folder's tile, and so are the offsets of its edges.
use Rattle.std.proofs.Common.{◌≡◌, ℕ, zero, suc, ◌<◌, ◌∙◌, refl, sym, ap, subst, List, [], ◌∷◌, ◌++◌, length, map, filter, take, get_or, Bool, true, arith, nat_eq, nat_lt, Some, slice_get}
use Rattle.std.specs.List.{flat_map, sum_by, position_or_len}
use Rattle.std.proofs.lemmas.List.{map-append, length-map}
use Rattle.std.proofs.lemmas.List.Folds.{flat_map-map}
use Rattle.std.proofs.lemmas.List.Sums.{sum_by-cons}
use Rattle.std.proofs.lemmas.Option.{get_or_from_slice_get}
use Rattle.osm_model.specs.declared.extract.Extract.{Extract}
use Rattle.road_pieces.specs.DirectedPiece.{DirectedPiece}
use Rattle.road_pieces.specs.Rows.{stops, piece_rows}
use Rattle.road_pieces.specs.Runs.{run, is_junction}
use Rattle.road_pieces.specs.declared.rows.Piece.{Piece}
use Rattle.road_pieces.proofs.Members.{IsIn}
use Rattle.road_walks.specs.BaseEdges.{directed_pieces}
use Rattle.road_walks.specs.Orders.{rising, same_numbers}
use Rattle.edge_info.specs.declared.infos.Info.{Info}
use Rattle.edge_info.specs.Entries.{starts_of}
use Rattle.tile_graph.specs.Tiles.{InfoFields}
use Rattle.tile_infos.specs.TileTexts.{text_place, texts_once, texts_of_pieces}
use Rattle.tile_infos.specs.TileEntries.{pieces_at, entry_of_piece, entries_of_pieces, size_of_entry}
use Rattle.folder_spec.specs.Tables.{NodeRow, TileRows, first_index, links_of}
use Rattle.folder_spec.specs.Folder.{piece_names, starts_on, info_keys, tile_texts, info_entry, entry_size, info_offset}
use Rattle.work_tile.specs.WorkRows.{WorkRows}
use Rattle.tile_numbers.specs.Records.{edges_of_rows}
use Rattle.edge_builder.specs.ExtractRows.{forward_pieces, is_of_piece, piece_place, piece_of_extract, edge_of_extract, node_of_extract}
use Rattle.tile_finish.specs.FinishedTiles.{piece_places, pieces_of_rows, entries_of_rows, texts_of_rows, entry_offset}
use Rattle.kept_rows.specs.KeptRows.{open_numbers, open_table, rows_of_table}
use Rattle.level_tiles.specs.LevelTiles.{nothing_given, told_so_far, info_of_fields}
use Rattle.level_tiles.proofs.TextPlaces.{texts_seen, text_place_is}
use Rattle.level_tiles.proofs.PieceLists.{first_is_place, filter_both, map_within}
use Rattle.level_tiles.proofs.PieceTiles.{firsts_of, of_firsts, in_firsts, rows_by_number}
use Rattle.level_tiles.proofs.PiecePlaces.{starts_either, pieces_there, place_in_places, piece_inside}

-- an entry starts where the sizes of those before it sum up to
abbrev pub StartsAreSums : Type 0
StartsAreSums = (infos : List Info) (i : ℕ) → i < length infos → slice_get (starts_of infos) i ≡ Some (sum_by size_of_entry (take i infos))

-- ---- pieces by their entries

module _ (x : Extract) (asked k c : ℕ) where
  abbrev keys : List DirectedPiece
  keys = info_keys x asked open_numbers nothing_given k c

  abbrev its_texts : List (List ℕ)
  its_texts = tile_texts x asked open_numbers nothing_given k c

  abbrev entry : DirectedPiece → InfoFields
  entry = info_entry x asked open_numbers nothing_given k c

  abbrev size : InfoFields → ℕ
  size = entry_size x asked open_numbers nothing_given

  same_size : (e : InfoFields) → size_of_entry (info_of_fields e) ≡ size e
  same_size e = omega arith

  same_sizes : (i : ℕ) (ps : List DirectedPiece) → sum_by size_of_entry (take i (map info_of_fields (map entry ps))) ≡ sum_by size (map entry (take i ps))
  same_sizes zero ps = refl
  same_sizes (suc i) [] = refl
  same_sizes (suc i) (p ∷ ps) =
      omega (
        arith,
        sum_by-cons size_of_entry (info_of_fields (entry p)) (take i (map info_of_fields (map entry ps))),
        sum_by-cons size (entry p) (map entry (take i ps)),
        same_size (entry p),
        same_sizes i ps,
      )

  texts_by_key : texts_of_pieces (map (piece_of_extract x) keys) ≡ its_texts
  texts_by_key =
      ap (texts_once []) (flat_map-map (λ (p : Piece). p.names) (piece_of_extract x) keys) ∙ texts_seen [] (flat_map (piece_names x asked open_numbers nothing_given) keys)

  names_placed : (names : List (List ℕ)) → map (text_place its_texts) names ≡ map (λ name. first_index (same_numbers name) its_texts) names
  names_placed [] = refl
  names_placed (n ∷ ns) = λ i. text_place_is its_texts n i ∷ names_placed ns i

  entry_is : (p : DirectedPiece) → entry_of_piece its_texts (piece_of_extract x p) ≡ info_of_fields (entry p)
  entry_is p =
      let number = sym (first_is_place (nat_eq p.from) (stops (is_junction x) 0 (run x p.way p.run))) in
      let names = names_placed (piece_names x asked open_numbers nothing_given p) in
      λ i. record { key = record { way = p.way; run = p.run; piece = number i }; shape = (piece_of_extract x p).shape; texts = names i }

  entries_by_key : entries_of_pieces (map (piece_of_extract x) keys) ≡ map info_of_fields (map entry keys)
  entries_by_key =
      ap (λ texts. map (entry_of_piece texts) (map (piece_of_extract x) keys)) texts_by_key ∙ each keys
    where
      each : (ps : List DirectedPiece) → map (entry_of_piece its_texts) (map (piece_of_extract x) ps) ≡ map info_of_fields (map entry ps)
      each [] = refl
      each (p ∷ ps) = λ i. entry_is p i ∷ each ps i

  -- where the entry with that index starts
  start_is : StartsAreSums → (i : ℕ) → i < length keys → get_or (starts_of (map info_of_fields (map entry keys))) i 0 ≡ sum_by size (map entry (take i keys))
  start_is sums i low =
      let entries = map info_of_fields (map entry keys) in
      let inside : i < length entries = omega (arith, low, length-map keys entry, length-map (map entry keys) info_of_fields) in
      get_or_from_slice_get (starts_of entries) i (sum_by size_of_entry (take i entries)) 0 (sums entries i inside) ∙ same_sizes i keys

-- ---- the rows of a tile

edges_are : (x : Extract) (k : ℕ) (nodes : List NodeRow) → flat_map (λ n. n.edges) (map (λ (r : NodeRow). node_of_extract x k r.osm (map (λ l. l.first) r.links)) nodes) ≡ map (edge_of_extract x k) (map (λ l. l.first) (flat_map (λ (r : NodeRow). r.links) nodes))
edges_are x k [] = refl
edges_are x k (r ∷ rs) =
    ap (λ l. map (edge_of_extract x k) (map (λ l. l.first) r.links) ++ l) (edges_are x k rs)
    ∙ sym (map-append (edge_of_extract x k) (map (λ l. l.first) r.links) (map (λ l. l.first) (flat_map (λ (s : NodeRow). s.links) rs)))
    ∙ sym (ap (map (edge_of_extract x k)) (map-append (λ l. l.first) r.links (flat_map (λ (s : NodeRow). s.links) rs)))

pub edges_of_table : (x : Extract) (rows : TileRows) → edges_of_rows (rows_of_table x rows) ≡ map (edge_of_extract x rows.level) (firsts_of rows)
edges_of_table x rows = edges_are x rows.level rows.nodes

module _ (x : Extract) (asked : ℕ) (told : piece_rows x ≡ map (piece_of_extract x) (forward_pieces x)) (rows : TileRows) (among : IsIn (open_table x asked).tiles rows) where
  abbrev w : WorkRows
  w = rows_of_table x rows

  abbrev starts : DirectedPiece → Bool
  starts = starts_on x asked open_numbers nothing_given rows.level rows.tile

  abbrev ks : List DirectedPiece
  ks = keys x asked rows.level rows.tile

  of_edges : (p : DirectedPiece) → IsIn (firsts_of rows) p → IsIn (directed_pieces x) p × (starts p ≡ true)
  of_edges p h = of_firsts x asked open_numbers nothing_given rows.level rows.tile p (subst (λ r. IsIn (firsts_of r) p) (rows_by_number x asked open_numbers nothing_given rows among) h)

  in_edges : (p : DirectedPiece) → IsIn (directed_pieces x) p → starts p ≡ true → IsIn (firsts_of rows) p
  in_edges p listed on = subst (λ r. IsIn (firsts_of r) p) (sym (rows_by_number x asked open_numbers nothing_given rows among)) (in_firsts x asked open_numbers nothing_given rows.level rows.tile p listed on)

  -- the places of the pieces of its edges
  places_of : piece_places w ≡ rising nat_lt (map (piece_place x) (firsts_of rows))
  places_of = ap (rising nat_lt) (ap (map (λ e. e.place)) (edges_of_table x rows) ∙ map_within (λ e. e.place) (edge_of_extract x rows.level) (piece_place x) (firsts_of rows) (λ p h. refl))

  keys_are : filter (starts_either x starts) (forward_pieces x) ≡ ks
  keys_are = filter_both (λ p. p.forward) (starts_either x starts) (directed_pieces x)

  -- the pieces of its edges are those of its entries
  pub pieces_are_keys : pieces_of_rows (piece_rows x) w ≡ map (piece_of_extract x) ks
  pieces_are_keys =
      ap (λ l. pieces_at l (piece_places w)) told
      ∙ ap (pieces_at (map (piece_of_extract x) (forward_pieces x))) places_of
      ∙ pieces_there x starts (firsts_of rows) of_edges in_edges (piece_of_extract x)
      ∙ ap (map (piece_of_extract x)) keys_are

  pub entries_told : entries_of_rows (piece_rows x) w ≡ map info_of_fields ((told_so_far x asked).entries rows.level rows.tile)
  entries_told = ap entries_of_pieces pieces_are_keys ∙ entries_by_key x asked rows.level rows.tile

  pub texts_told : texts_of_rows (piece_rows x) w ≡ (told_so_far x asked).texts rows.level rows.tile
  texts_told = ap texts_of_pieces pieces_are_keys ∙ texts_by_key x asked rows.level rows.tile

  offset_is : StartsAreSums → (p : DirectedPiece) → IsIn (firsts_of rows) p → entry_offset (piece_rows x) w (edge_of_extract x rows.level p) ≡ info_offset x asked open_numbers nothing_given rows.level rows.tile p
  offset_is sums p h =
      let place : position_or_len (nat_eq (piece_place x p)) (piece_places w) ≡ first_index (is_of_piece p) ks =
      ap (position_or_len (nat_eq (piece_place x p))) places_of ∙ place_in_places x starts (firsts_of rows) of_edges in_edges p h ∙ ap (first_index (is_of_piece p)) keys_are in
      let low : first_index (is_of_piece p) ks < length ks = subst (λ l. first_index (is_of_piece p) l < length l) keys_are (piece_inside x starts (firsts_of rows) of_edges in_edges p h) in
      ap (λ l. get_or (starts_of l) (position_or_len (nat_eq (piece_place x p)) (piece_places w)) 0) entries_told
      ∙ ap (λ i. get_or (starts_of (map info_of_fields ((told_so_far x asked).entries rows.level rows.tile))) i 0) place
      ∙ start_is x asked rows.level rows.tile sums (first_index (is_of_piece p) ks) low

  pub offsets_told : StartsAreSums → map (entry_offset (piece_rows x) w) (edges_of_rows w) ≡ map (λ l. (told_so_far x asked).info rows.level rows.tile l.first) (links_of rows)
  offsets_told sums =
      ap (map (entry_offset (piece_rows x) w)) (edges_of_table x rows)
      ∙ map_within (entry_offset (piece_rows x) w) (edge_of_extract x rows.level) (info_offset x asked open_numbers nothing_given rows.level rows.tile) (firsts_of rows) (offset_is sums)
      ∙ map_within (info_offset x asked open_numbers nothing_given rows.level rows.tile) (λ l. l.first) (λ l. (told_so_far x asked).info rows.level rows.tile l.first) (links_of rows) (λ l h. refl)
