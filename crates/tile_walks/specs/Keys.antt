-- Tiles in order of level and number, each once.
use Rattle.std.specs.Prelude.{◌≡◌, ◌≢◌, ⊤, ℕ, suc, min, ◌+◌, ◌*◌, ◌^◌, ◌<◌, ◌≤◌, Option, Some, None, List, length, map, slice_index, sum_by, nat_eq, if◌then◌else◌, ◌==◌}
use Rattle.std.specs.Int.{from_bool}
use Rattle.graph_id.specs.GraphId.{level_of, tile_of_id}
use Rattle.tile_bytes.specs.declared.tile.Tile.{Tile}
use Rattle.tile_walks.specs.declared.graph.GraphFault.{GraphFault}
use Rattle.tile_walks.specs.declared.graph.GraphFault.TheVariants as faults

-- the tile of a GraphId as one number, which is in the order of level and tile
abbrev pub key_of : ℕ → ℕ
key_of id = level_of id * 2 ^ 22 + tile_of_id id

abbrev pub keys_of : List Tile → List ℕ
keys_of tiles = map (λ t. key_of t.id) tiles

-- the numbers rise, each stands once
abbrev pub Rise : List ℕ → Type 0
Rise keys = (i j : ℕ) → i < j → j < length keys → slice_index keys i < slice_index keys j

-- how many of the tiles have an id
abbrev pub tiles_with : ℕ → List Tile → ℕ
tiles_with id tiles = sum_by (λ t. from_bool (nat_eq t.id id)) tiles

-- two tiles have this id, and none that is less is that of two
pub record IsLeastTwice (tiles : List Tile) (id : ℕ) : Type 0 where
  pub twice : 2 ≤ tiles_with id tiles
  pub least : (other : ℕ) → 2 ≤ tiles_with other tiles → id ≤ other

-- why tiles give no graph; want of memory is free
abbrev pub IsGraphFault : List Tile → GraphFault → Type 0
IsGraphFault tiles (faults.DuplicateTile id) = IsLeastTwice tiles id
IsGraphFault tiles faults.OutOfMemory = ⊤

-- ---- tiles side by side

abbrev pub ids_of : List Tile → List ℕ
ids_of tiles = map (λ t. t.id) tiles

-- the least of the numbers that stand twice side by side among the first n, where there is one
abbrev pub IsLeastDouble : List ℕ → ℕ → Option ℕ → Type 0
IsLeastDouble ids n None = (k : ℕ) → suc k < n → slice_index ids k ≢ slice_index ids (suc k)
IsLeastDouble ids n (Some id) =
    ((k : ℕ) × (suc k < n) × (slice_index ids k ≡ id) × (slice_index ids (suc k) ≡ id))
    × ((k : ℕ) → suc k < n → slice_index ids k ≡ slice_index ids (suc k) → id ≤ slice_index ids k)

-- the lesser of a number and what there is so far
abbrev pub lesser : Option ℕ → ℕ → ℕ
lesser None id = id
lesser (Some kept) id = min kept id

abbrev pub doubled : Option ℕ → ℕ → ℕ → Option ℕ
doubled found a b = if a == b then Some (lesser found b) else found
