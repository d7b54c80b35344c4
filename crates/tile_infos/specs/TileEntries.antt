-- The entries of a tile.
use Rattle.std.specs.Prelude.{ℕ, ◌+◌, ◌*◌, List, length, map, slice_get}
use Rattle.std.specs.List.{filter_map}
use Rattle.edge_info.specs.declared.infos.Info.{Info}
use Rattle.road_pieces.specs.declared.rows.Piece.{Piece}
use Rattle.tile_infos.specs.TileTexts.{text_place, texts_of_pieces}

-- the pieces at these places
abbrev pub pieces_at : List Piece → List ℕ → List Piece
pieces_at pieces places = filter_map (slice_get pieces) places

-- the entry of a piece: its key, its course, and where its names stand among these texts
abbrev pub entry_of_piece : List (List ℕ) → Piece → Info
entry_of_piece texts p = record { key = p.key; shape = p.shape; texts = map (text_place texts) p.names }

-- the entries of a tile with these pieces
abbrev pub entries_of_pieces : List Piece → List Info
entries_of_pieces pieces = map (entry_of_piece (texts_of_pieces pieces)) pieces

-- the bytes of an entry: 24, 8 for each point and 4 for each name
abbrev pub size_of_entry : Info → ℕ
size_of_entry info = 24 + 8 * length info.shape + 4 * length info.texts
