-- The tile has the nodes so far.
use Rattle.std.proofs.Common.{◌≡◌, map, take}
use Rattle.hierarchy.specs.Spots.{placed_of}
use Rattle.hierarchy.proofs.tiles.make_tile.Given as goal

abbrev pub invariant-loop-spot : goal.invariant-loop-spot
invariant-loop-spot l = l.rows ≡ record { level = l.level; tile = l.tile; nodes = map (λ s. (placed_of l.level l.tiles s).node) (take l.spot-index l.spots) }
