-- The base tiles of the roads of an extract are the first stage of a build: all its directed pieces, in tiles of level 2.
use Rattle.std.specs.Prelude.{◌≡◌, map}
use Rattle.osm_model.specs.declared.extract.Extract.{Extract}
use Rattle.road_pieces.specs.Rows.{junction_rows, piece_rows}
use Rattle.road_walks.specs.BaseEdges.{directed_pieces}
use Rattle.road_walks.specs.Stages.{stage}
use Rattle.edge_builder.specs.BaseTiles.{base_tiles_of}
use Rattle.edge_builder.specs.ExtractRows.{forward_pieces, piece_of_extract, node_tile, rows_of_stage}

-- the pieces of an extract are its directed pieces that run forward
abbrev pub PiecesToldForward : Type 0
PiecesToldForward = (x : Extract) → piece_rows x ≡ map (piece_of_extract x) (forward_pieces x)

-- the base tiles are the first stage, row by row
abbrev pub BaseStage : Type 0
BaseStage = (x : Extract) → base_tiles_of (junction_rows x) (piece_rows x) ≡ map (rows_of_stage x) (stage x (node_tile x) (directed_pieces x) 2)
