-- None of the tiles so far is full.
use Rattle.std.proofs.Common.{◌≡◌, take, None}
use Rattle.tile_numbers.specs.Limits.{first_fullness}
use Rattle.tile_numbers.proofs.room.first_full.Given as goal

abbrev pub invariant-loop-tile : goal.invariant-loop-tile
invariant-loop-tile l = first_fullness (take l.tile-index l.tiles) ≡ None
