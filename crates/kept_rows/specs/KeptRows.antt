-- The tiles of all levels that are made of the kept roads of an extract are the rows of its folder.
use Rattle.std.specs.Prelude.{◌≡◌, ℕ, List, [], map, All}
use Rattle.osm_model.specs.declared.extract.Extract.{Extract}
use Rattle.road_pieces.specs.Rows.{junction_rows, piece_rows}
use Rattle.road_walks.specs.BaseEdges.{FormatNumbers, tile_numbers}
use Rattle.folder_spec.specs.Tables.{TileRows, RowTable}
use Rattle.folder_spec.specs.Rows.{extract_table}
use Rattle.work_tile.specs.WorkRows.{WorkRows}
use Rattle.access_filter.specs.Kept.{kept_tiles}
use Rattle.edge_builder.specs.BaseTiles.{base_tiles_of}
use Rattle.edge_builder.specs.ExtractRows.{node_tile, node_of_extract}
use Rattle.hierarchy.specs.Lifted.{lifted_tiles}
use Rattle.hierarchy.specs.Spots.{OwnNodes}

-- the base tiles; what is kept of them; and that on its levels
abbrev pub kept_of_extract : Extract → ℕ → List WorkRows
kept_of_extract x asked = kept_tiles asked (base_tiles_of (junction_rows x) (piece_rows x))

abbrev pub lifted_of_extract : Extract → ℕ → List WorkRows
lifted_of_extract x asked = lifted_tiles (kept_of_extract x asked)

-- the numbers of the tiles that are written today, but for a mode more, to which no node is open: since a shortcut passes
-- only nodes that are open to all modes, no table of these numbers has one, as long as none is built
abbrev pub open_numbers : FormatNumbers
open_numbers = record tile_numbers { all = 95 }

-- the table of the folder, without turn restrictions and shortcuts
abbrev pub open_table : Extract → ℕ → RowTable
open_table x asked = extract_table x asked open_numbers [] (node_tile x)

-- the work rows of a tile of the table: of each link its first piece
abbrev pub rows_of_table : Extract → TileRows → WorkRows
rows_of_table x rows = record {
  level = rows.level;
  tile = rows.tile;
  nodes = map (λ r. node_of_extract x rows.level r.osm (map (λ l. l.first) r.links)) rows.nodes;
}

-- the law
abbrev pub LiftedAreTable : Type 0
LiftedAreTable = (x : Extract) (asked : ℕ) → lifted_of_extract x asked ≡ map (rows_of_table x) (open_table x asked).tiles

-- the kept tiles can be lifted
abbrev pub KeptOwnNodes : Type 0
KeptOwnNodes = (x : Extract) (asked : ℕ) → OwnNodes (kept_of_extract x asked)

-- each link of the table is one edge, and there is no sequence
pub record IsPlainTable (t : RowTable) : Type 0 where
  pub links : All (λ (rows : TileRows). All (λ r. All (λ l. l.more ≡ []) r.links) rows.nodes) t.tiles
  pub sequences : t.sequences ≡ []

abbrev pub OpenTableIsPlain : Type 0
OpenTableIsPlain = (x : Extract) (asked : ℕ) → IsPlainTable (open_table x asked)
