-- The files that are built of an extract, and the limits that its roads may pass.
use Rattle.std.specs.Prelude.{◌≡◌, ℕ, ◌++◌, List, [], ◌∷◌, map, length, nat_lt, All, Option, Some, None, if◌then◌else◌}
use Rattle.std.specs.Option.{option_map, option_or}
use Rattle.graph_id.specs.GraphId.{level_of, tile_of_id}
use Rattle.graph_id.specs.TilePath.{tile_path_of}
use Rattle.osm_model.specs.declared.extract.Extract.{Extract}
use Rattle.road_pieces.specs.declared.faults.CutFault.{CutFault}
use Rattle.road_pieces.specs.declared.faults.CutFault.TheVariants as cut_faults
use Rattle.road_pieces.specs.declared.rows.Junction.{Junction}
use Rattle.road_pieces.specs.declared.rows.Piece.{Piece}
use Rattle.road_pieces.specs.Rows.{junction_rows, piece_rows, refusal}
use Rattle.edge_builder.specs.declared.faults.BaseFault.{BaseFault}
use Rattle.edge_builder.specs.declared.faults.BaseFault.TheVariants as base_faults
use Rattle.edge_builder.specs.BaseRows.{AreRoads, crowded}
use Rattle.edge_builder.specs.BaseTiles.{base_tiles_of}
use Rattle.access_filter.specs.Kept.{kept_tiles}
use Rattle.hierarchy.specs.Lifted.{lifted_tiles}
use Rattle.hierarchy.specs.Spots.{OwnNodes}
use Rattle.tile_numbers.specs.declared.room.TheConstants.{MOST_RECORDS}
use Rattle.tile_numbers.specs.declared.room.What.TheVariants as kinds
use Rattle.tile_numbers.specs.Limits.{HasRoom}
use Rattle.tile_bytes.specs.declared.tile.Tile.{Tile}
use Rattle.tile_bytes.specs.Tiles.{spelling_of}
use Rattle.tile_bytes.specs.Writing.{first_above, section_counts}
use Rattle.work_tile.specs.WorkRows.{WorkRows}
use Rattle.tile_finish.specs.FinishedTiles.{AreFinishable, finished_tile}
use Rattle.level_tiles.specs.LevelTiles.{tiles_so_far, tile_of_fields}
use Rattle.build_flow.specs.declared.faults.LimitFault.{LimitFault}
use Rattle.build_flow.specs.declared.faults.LimitFault.TheVariants.{Pieces, EdgeTooLong, TooManyEdges, TileFull, Section}
use Rattle.build_flow.specs.declared.faults.FlowFault.{FlowFault}
use Rattle.build_flow.specs.declared.faults.FlowFault.TheVariants.{Limit, OutOfMemory}

-- ---- the files

-- the tiles of the folder of an extract, as far as they are built
abbrev pub built_tiles : Extract → ℕ → List Tile
built_tiles x asked = map tile_of_fields (tiles_so_far x asked)

-- the file of a tile: its path in the folder, and its one spelling
abbrev pub tile_file : Tile → List ℕ × List ℕ
tile_file tile = (tile_path_of tile.id, spelling_of tile)

abbrev pub folder_files : Extract → ℕ → List (List ℕ × List ℕ)
folder_files x asked = map tile_file (built_tiles x asked)

-- ---- the limits

-- the first that there is among what the elements give
abbrev pub first_given : {E F : Type 0} → (E → Option F) → List E → Option F
first_given give [] = None
first_given give (e ∷ es) = option_or (give e) (first_given give es)

-- what a tile has more of than GraphIds number, if anything: nodes before edges
abbrev pub too_full : Tile → Option LimitFault
too_full tile =
    if nat_lt MOST_RECORDS (length tile.nodes) then Some (TileFull (level_of tile.id) (tile_of_id tile.id) kinds.Nodes (length tile.nodes))
    else if nat_lt MOST_RECORDS (length tile.edges) then Some (TileFull (level_of tile.id) (tile_of_id tile.id) kinds.Edges (length tile.edges))
    else None

-- the first section of a tile that is too large for its header, if there is one
abbrev pub too_long_section : Tile → Option LimitFault
too_long_section tile = option_map (Section (level_of tile.id) (tile_of_id tile.id)) (first_above (section_counts tile))

-- a limit of pieces, and of base edges; want of memory is none
abbrev pub limit_of_cut : CutFault → Option LimitFault
limit_of_cut (cut_faults.TooManyPieces count) = Some (Pieces count)
limit_of_cut (cut_faults.EdgeTooLong way run piece cm) = Some (EdgeTooLong way run piece cm)
limit_of_cut cut_faults.OutOfMemory = None

abbrev pub limit_of_base : BaseFault → Option LimitFault
limit_of_base (base_faults.TooManyEdges node count) = Some (TooManyEdges node count)
limit_of_base base_faults.OutOfMemory = None

abbrev pub some_limit : {F : Type 0} → (F → Option LimitFault) → Option F → Option LimitFault
some_limit limit None = None
some_limit limit (Some fault) = limit fault

-- the first limit that tiles pass: one that is full comes before a section that is too long
abbrev pub tiles_limit : List Tile → Option LimitFault
tiles_limit tiles = option_or (first_given too_full tiles) (first_given too_long_section tiles)

-- the first limit that the roads of an extract pass: pieces, the length of one, base edges of a junction, tiles
abbrev pub limit_passed : Extract → ℕ → Option LimitFault
limit_passed x asked =
    option_or (some_limit limit_of_cut (refusal (piece_rows x)))
    (option_or (some_limit limit_of_base (crowded (junction_rows x) (piece_rows x))) (tiles_limit (built_tiles x asked)))

-- a fault is this limit, or want of memory, which says nothing of the roads
abbrev pub IsFault : Option LimitFault → FlowFault → Type 0
IsFault passed (Limit limit) = passed ≡ Some limit
IsFault passed OutOfMemory = Unit {0}

-- ---- the tiles that roads make, stage by stage

-- the base tiles of roads; what is kept of them; and that on its levels
abbrev pub kept_of_roads : ℕ → List Junction → List Piece → List WorkRows
kept_of_roads asked junctions pieces = kept_tiles asked (base_tiles_of junctions pieces)

abbrev pub lifted_of_roads : ℕ → List Junction → List Piece → List WorkRows
lifted_of_roads asked junctions pieces = lifted_tiles (kept_of_roads asked junctions pieces)

-- the tiles that they make
abbrev pub finished_tiles : ℕ → List Piece → List WorkRows → List Tile
finished_tiles asked pieces tiles = map (finished_tile asked pieces tiles) tiles

abbrev pub tiles_of_roads : ℕ → List Junction → List Piece → List Tile
tiles_of_roads asked junctions pieces = finished_tiles asked pieces (lifted_of_roads asked junctions pieces)

-- the first limit that roads pass behind those of pieces
abbrev pub limit_of_roads : ℕ → List Junction → List Piece → Option LimitFault
limit_of_roads asked junctions pieces = option_or (some_limit limit_of_base (crowded junctions pieces)) (tiles_limit (tiles_of_roads asked junctions pieces))

-- roads whose tiles can be finished, where they pass no limit
pub record CanBeBuilt (asked : ℕ) (junctions : List Junction) (pieces : List Piece) : Type 0 where
  pub roads : AreRoads junctions pieces
  pub own : OwnNodes (kept_of_roads asked junctions pieces)
  pub tiles : crowded junctions pieces ≡ None → All HasRoom (lifted_of_roads asked junctions pieces) → AreFinishable (lifted_of_roads asked junctions pieces) pieces
