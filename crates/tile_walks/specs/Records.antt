-- The records of tiles under their GraphIds.
use Rattle.std.specs.Prelude.{◌≡◌, ℕ, List, slice_get, Some}
use Rattle.std.specs.List.{Contains}
use Rattle.graph_id.specs.GraphId.{level_of, tile_of_id, value_of}
use Rattle.tile_records.specs.Nodes.{NodeFields}
use Rattle.tile_records.specs.Edges.{EdgeFields}
use Rattle.tile_bytes.specs.declared.tile.Tile.{Tile}

-- one of the records that these tiles have, under its GraphId: level, tile, and place in the tile
pub record IsRecordOf {R : Type 0} (records : Tile → List R) (tiles : List Tile) (id : ℕ) (r : R) : Type 0 where
  pub tile : Tile
  pub there : Contains tiles tile
  pub place : ℕ
  pub at : slice_get (records tile) place ≡ Some r
  pub named : value_of (level_of tile.id) (tile_of_id tile.id) place ≡ id

abbrev pub IsNodeOf : List Tile → ℕ → NodeFields → Type 0
IsNodeOf = IsRecordOf (λ t. t.nodes)

abbrev pub IsEdgeOf : List Tile → ℕ → EdgeFields → Type 0
IsEdgeOf = IsRecordOf (λ t. t.edges)
