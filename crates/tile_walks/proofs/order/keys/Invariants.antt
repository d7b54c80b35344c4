-- The keys so far.
use Rattle.std.proofs.Common.{◌≡◌, take}
use Rattle.tile_walks.specs.Keys.{keys_of}
use Rattle.tile_walks.proofs.order.keys.Given as goal

abbrev pub invariant-loop-tile : goal.invariant-loop-tile
invariant-loop-tile l = l.keys.items ≡ keys_of (take l.tile-index l.tiles)
