-- The parts of a GraphId.
use Rattle.std.proofs.Common.{◌≡◌, ℕ, ◌<◌, ◌^◌, arith}
use Rattle.graph_id.specs.GraphId.{level_of, tile_of_id, id_of, value_of}
use Rattle.tile_walks.specs.Keys.{key_of}

pub same_level : (a b : ℕ) → key_of a ≡ key_of b → level_of a ≡ level_of b
same_level a b e = omega (arith, e)

pub same_tile : (a b : ℕ) → key_of a ≡ key_of b → tile_of_id a ≡ tile_of_id b
same_tile a b e = omega (arith, e)

pub whole : (id : ℕ) → id < 2 ^ 46 → value_of (level_of id) (tile_of_id id) (id_of id) ≡ id
whole id h = omega (arith, h)

-- the parts of the id of a record of a tile
pub key_in : (t place id : ℕ) → value_of (level_of t) (tile_of_id t) place ≡ id → key_of id ≡ key_of t
key_in t place id e = omega (arith, e)

pub place_in : (t place id : ℕ) → value_of (level_of t) (tile_of_id t) place ≡ id → id < 2 ^ 46 → id_of id ≡ place
place_in t place id e h = omega (arith, e, h)
