-- The tiles so far are numbered.
use Rattle.std.proofs.Common.{◌≡◌, take}
use Rattle.work_tile.specs.Places.{place_numbers}
use Rattle.work_tile.proofs.places.Places.of_tiles.Given as goal

abbrev pub invariant-loop-tile : goal.invariant-loop-tile
invariant-loop-tile l = l.numbers.items ≡ place_numbers (take l.tile-index l.tiles)
