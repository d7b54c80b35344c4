-- The tile that work rows make: their records, and the entries and texts of the pieces of their edges.
use Rattle.std.specs.Prelude.{◌≡◌, ℕ, ◌<◌, List, [], map, length, nat_eq, nat_lt, slice_index_or, All}
use Rattle.std.specs.List.{position_or_len}
use Rattle.graph_id.specs.GraphId.{value_of}
use Rattle.tile_geometry.specs.Grid.{tile_count, class_level}
use Rattle.road_walks.specs.Orders.{rising}
use Rattle.road_pieces.specs.declared.rows.Piece.{Piece}
use Rattle.edge_info.specs.declared.infos.Info.{Info}
use Rattle.edge_info.specs.Entries.{starts_of}
use Rattle.work_tile.specs.declared.edge_rows.WorkEdge.{WorkEdge}
use Rattle.work_tile.specs.WorkRows.{WorkRows}
use Rattle.tile_infos.specs.TileTexts.{texts_of_pieces}
use Rattle.tile_infos.specs.TileEntries.{pieces_at, entries_of_pieces}
use Rattle.tile_infos.specs.TileChecks.{HasEntry, KeysRise}
use Rattle.tile_numbers.specs.Records.{edges_of_rows, node_records_of, edge_records_of, transitions_of_rows}
use Rattle.tile_numbers.specs.Limits.{TilesCanBeNumbered}
use Rattle.tile_number_laws.specs.NumberedChecks.{IsInTile}
use Rattle.tile_bytes.specs.declared.tile.Tile.{Tile}

-- ---- the tile

-- the indexes of the pieces of its edges, in order, each once
abbrev pub piece_places : WorkRows → List ℕ
piece_places rows = rising nat_lt (map (λ e. e.place) (edges_of_rows rows))

-- the pieces of its edges, in order of key
abbrev pub pieces_of_rows : List Piece → WorkRows → List Piece
pieces_of_rows pieces rows = pieces_at pieces (piece_places rows)

-- their entries and texts
abbrev pub entries_of_rows : List Piece → WorkRows → List Info
entries_of_rows pieces rows = entries_of_pieces (pieces_of_rows pieces rows)

abbrev pub texts_of_rows : List Piece → WorkRows → List (List ℕ)
texts_of_rows pieces rows = texts_of_pieces (pieces_of_rows pieces rows)

-- where the entry of an edge's piece starts
abbrev pub entry_offset : List Piece → WorkRows → WorkEdge → ℕ
entry_offset pieces rows e = slice_index_or (starts_of (entries_of_rows pieces rows)) (position_or_len (nat_eq e.place) (piece_places rows)) 0

-- the tile of rows among other tiles, for these modes; chains and sequences aren't built yet
abbrev pub finished_tile : ℕ → List Piece → List WorkRows → WorkRows → Tile
finished_tile modes pieces tiles rows = record {
  id = value_of rows.level rows.tile 0;
  modes = modes;
  nodes = node_records_of tiles rows;
  edges = edge_records_of tiles rows (map (entry_offset pieces rows) (edges_of_rows rows));
  transitions = transitions_of_rows tiles rows;
  chains = [];
  sequences = [];
  infos = entries_of_rows pieces rows;
  texts = texts_of_rows pieces rows;
}

-- ---- which rows can be finished

-- a tile of its level; its nodes lie in it, each with an edge; its edges are of its level, and their pieces are among
-- so many
pub record CanBeFinished (count : ℕ) (rows : WorkRows) : Type 0 where
  pub there : rows.tile < tile_count rows.level
  pub nodes : All (IsInTile rows.level rows.tile) rows.nodes
  pub classes : All (λ (e : WorkEdge). class_level e.class ≡ rows.level) (edges_of_rows rows)
  pub places : All (λ (e : WorkEdge). e.place < count) (edges_of_rows rows)

-- tiles that can be numbered and finished; pieces whose keys rise, each of which can have an entry
pub record AreFinishable (tiles : List WorkRows) (pieces : List Piece) : Type 0 where
  pub numbered : TilesCanBeNumbered tiles
  pub each : All (CanBeFinished (length pieces)) tiles
  pub entries : All HasEntry pieces
  pub rise : KeysRise pieces
