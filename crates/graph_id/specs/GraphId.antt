-- The number of a record of a tile: the level in bits 0 to 2, the tile in bits 3 to 24, the id in bits 25 to 45.
use Rattle.std.specs.Prelude.{ℕ, ◌+◌, ◌-◌, ◌*◌, ◌/◌, ◌%◌, ◌^◌, ◌≤◌, ◌≢◌}

-- the hierarchy level of a value
abbrev pub level_of : ℕ → ℕ
level_of value = value % 2 ^ 3

-- the tile's number within the level
abbrev pub tile_of_id : ℕ → ℕ
tile_of_id value = value / 2 ^ 3 % 2 ^ 22

-- the record's number within the tile
abbrev pub id_of : ℕ → ℕ
id_of value = value / 2 ^ 25 % 2 ^ 21

-- the value of three parts
abbrev pub value_of : ℕ → ℕ → ℕ → ℕ
value_of level tile id = level + 2 ^ 3 * tile + 2 ^ 25 * id

-- the value that stands for no record: all 46 bits are set
abbrev pub invalid : ℕ
invalid = 2 ^ 46 - 1

-- each part fits its bits, and together they aren't the invalid value
pub record AreParts (level tile id : ℕ) : Type 0 where
  pub level_fits : level ≤ 7
  pub tile_fits : tile ≤ 4_194_303
  pub id_fits : id ≤ 2_097_151
  pub valid : value_of level tile id ≢ invalid
