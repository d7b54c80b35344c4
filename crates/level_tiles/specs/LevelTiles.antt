-- The tiles of the folder of an extract, as far as they are built: of nodes all fields but the density, of edges all but
-- not-thru and the name consistency; without turn restrictions and shortcuts.
use Rattle.std.specs.Prelude.{◌≡◌, ℕ, false, List, [], map}
use Rattle.graph_id.specs.GraphId.{value_of}
use Rattle.edge_info.specs.declared.infos.Info.{Info}
use Rattle.osm_model.specs.declared.extract.Extract.{Extract}
use Rattle.road_pieces.specs.Rows.{piece_rows}
use Rattle.tile_bytes.specs.declared.tile.Tile.{Tile}
use Rattle.tile_graph.specs.Tiles.{InfoFields, TileFields}
use Rattle.folder_spec.specs.Folder.{Given, told_fields}
use Rattle.folder_spec.specs.Records.{ToldFields, tile_from}
use Rattle.tile_finish.specs.FinishedTiles.{finished_tile}
use Rattle.edge_builder.specs.ExtractRows.{node_tile}
use Rattle.kept_rows.specs.KeptRows.{lifted_of_extract, open_numbers, open_table}

-- ---- the tiles

-- no turn restrictions, and no piece that is not-thru
abbrev pub nothing_given : Given
nothing_given = record { patterns = []; not_thru = λ p. false }

-- what is told so far beside what walks read
abbrev pub told_so_far : Extract → ℕ → ToldFields
told_so_far x asked = record (told_fields x asked open_numbers nothing_given) { density = λ n. 0; consistency = λ p. 0 }

abbrev pub tiles_so_far : Extract → ℕ → List TileFields
tiles_so_far x asked = map (tile_from x (told_so_far x asked) (open_table x asked) (node_tile x)) (open_table x asked).tiles

-- ---- as tiles of files

abbrev pub info_of_fields : InfoFields → Info
info_of_fields e = record { key = record { way = e.way; run = e.run; piece = e.piece }; shape = e.points; texts = e.names }

abbrev pub tile_of_fields : TileFields → Tile
tile_of_fields t = record {
  id = value_of t.level t.tile 0;
  modes = t.modes;
  nodes = t.nodes;
  edges = t.edges;
  transitions = t.transitions;
  chains = t.chains;
  sequences = map (λ s. record { edges = s.0; modes = s.1 }) t.sequences;
  infos = map info_of_fields t.infos;
  texts = t.texts;
}

-- the law: the tiles that the lifted rows make are those of the folder
abbrev pub LiftedMakeTiles : Type 0
LiftedMakeTiles = (x : Extract) (asked : ℕ) → map (finished_tile asked (piece_rows x) (lifted_of_extract x asked)) (lifted_of_extract x asked) ≡ map tile_of_fields (tiles_so_far x asked)
