-- Which tiles there are, in order.
use Rattle.std.specs.Prelude.{◌<◌, ℕ, ◌+◌, ◌*◌, List, length, map, slice_index}
use Rattle.work_tile.specs.WorkRows.{WorkRows}

-- a level and a tile's number in one number, in order of level, then tile
abbrev pub tile_number : ℕ → ℕ → ℕ
tile_number level tile = level * 4_294_967_296 + tile

abbrev pub place_numbers : List WorkRows → List ℕ
place_numbers tiles = map (λ t. tile_number t.level t.tile) tiles

-- each number is below those behind it
abbrev pub NumbersRise : List ℕ → Type 0
NumbersRise numbers = (i j : ℕ) → i < j → j < length numbers → slice_index numbers i < slice_index numbers j
