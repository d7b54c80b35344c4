-- The list of the tile files of a folder.
use Rattle.std.specs.Prelude.{ℕ, ◌<◌, ◌≤◌, List, [], ◌∷◌, ◌++◌, codes}
use Rattle.std.specs.List.{zip, flat_map}
use Rattle.std.specs.Fmt.{decimal}
use Rattle.graph_id.specs.GraphId.{level_of, tile_of_id}
use Rattle.graph_id.specs.TilePath.{tile_path_of}

-- a GraphId on one of the three levels, whose tile has a path
pub record HasTilePath (id : ℕ) : Type 0 where
  pub three_levels : level_of id ≤ 2
  pub six_digits : level_of id < 2 → tile_of_id id < 1_000_000

-- the path of the tile's file, a space, its size in bytes
abbrev pub tile_line : ℕ → ℕ → List ℕ
tile_line id size = tile_path_of id ++ (32 ∷ (decimal size ++ 10 ∷ []))

-- the name of the form and its version, then a line for each tile
abbrev pub tile_list : List ℕ → List ℕ → List ℕ
tile_list ids sizes = codes "mjolnir-tiles 1" ++ 10 ∷ [] ++ flat_map (λ tile. tile_line tile.0 tile.1) (zip ids sizes)
