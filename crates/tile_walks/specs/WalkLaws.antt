-- Items are a walk exactly where they follow each other and no sequence forbids them.
use Rattle.std.specs.Prelude.{ℕ, List, All, ◌↔◌}
use Rattle.tile_bytes.specs.declared.tile.Tile.{Tile}
use Rattle.tile_bytes.specs.Tiles.{PassesChecks}
use Rattle.tile_walks.specs.declared.items.WalkItem.{WalkItem}
use Rattle.tile_walks.specs.Keys.{Rise, keys_of}
use Rattle.tile_walks.specs.FileTiles.{file_graph}
use Rattle.tile_walks.specs.WalkItems.{IsWalkOf, IsPermitted}
use Rattle.tile_walks.specs.Steps.{Follow}

abbrev pub WalksFollow : Type 0
WalksFollow = (tiles : List Tile) → All PassesChecks tiles → Rise (keys_of tiles) → (vehicles mode : ℕ) (named : List WalkItem)
    → (Follow tiles vehicles mode named × IsPermitted (file_graph tiles) mode named) ↔ IsWalkOf (file_graph tiles) vehicles mode named
