-- What holds of every extract that is built.
use Rattle.std.specs.Prelude.{◌≡◌, ◌↔◌, ℕ, ℤ, None}
use Rattle.osm_model.specs.declared.extract.Extract.{Extract}
use Rattle.road_pieces.specs.Modes.{vehicle_mode_bits, IsMode}
use Rattle.road_pieces.specs.Walks.{RoadWalk}
use Rattle.tile_graph.specs.Graphs.{TileWalk}
use Rattle.tile_graph.specs.Tiles.{graph_of_tiles}
use Rattle.level_tiles.specs.LevelTiles.{tiles_so_far}
use Rattle.build_flow.specs.Unbuilt.{unbuilt}
use Rattle.build_flow.specs.FolderFiles.{folder_files, limit_passed}

-- for each mode, each two nodes and each length: a walk over the segments of the roads exists exactly where one over the
-- graph of the tiles does
abbrev pub HasTileWalks : Extract → ℕ → Type 0
HasTileWalks x asked =
    (mode : ℕ) → IsMode mode → (a b : ℤ) (total : ℕ)
    → RoadWalk x asked mode a b total ↔ TileWalk (graph_of_tiles (tiles_so_far x asked)) vehicle_mode_bits mode a b total

-- the law of walks: where all objects are built, the tiles have exactly the walks of the roads
abbrev pub BuiltWalks : Type 0
BuiltWalks = (x : Extract) (asked : ℕ) → unbuilt x ≡ None → HasTileWalks x asked

-- extracts with the same objects
pub record SameObjects (x y : Extract) : Type 0 where
  pub nodes : x.nodes ≡ y.nodes
  pub ways : x.ways ≡ y.ways
  pub relations : x.relations ≡ y.relations

-- what is built of two extracts is the same
pub record SameBuild (x y : Extract) (asked : ℕ) : Type 0 where
  pub files : folder_files x asked ≡ folder_files y asked
  pub limits : limit_passed x asked ≡ limit_passed y asked

-- the law of objects: a folder is made of the objects alone
abbrev pub BuildsByObjects : Type 0
BuildsByObjects = (x y : Extract) (asked : ℕ) → SameObjects x y → SameBuild x y asked
