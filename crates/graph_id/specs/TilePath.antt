-- The path of a tile's file in the folder, as bytes of ASCII text.
use Rattle.std.specs.Prelude.{ℕ, ◌+◌, ◌/◌, ◌%◌, List, [], ◌∷◌, ◌++◌, codes, if◌then◌else◌, ◌==◌}
use Rattle.graph_id.specs.GraphId.{level_of, tile_of_id}

-- a digit of a number, as its character
abbrev pub digit : ℕ → ℕ
digit n = 48 + n % 10

-- `/` and the last three digits of a number, zeros in front
unfoldable pub group : ℕ → List ℕ
group n = 47 ∷ digit (n / 100) ∷ digit (n / 10) ∷ digit n ∷ []

-- a tile number in groups of three digits: nine digits on level 2, six on the others
unfoldable pub groups : ℕ → ℕ → List ℕ
groups level tile =
    if level == 2
    then group (tile / 1_000_000) ++ (group (tile / 1000) ++ group tile)
    else group (tile / 1000) ++ group tile

-- the level, the groups of the tile number, and the ending; the id isn't in the path
unfoldable pub tile_path_of : ℕ → List ℕ
tile_path_of value =
    digit (level_of value) ∷ [] ++ groups (level_of value) (tile_of_id value) ++ codes ".gph"
