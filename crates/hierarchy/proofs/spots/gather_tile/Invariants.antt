-- The spots of the nodes so far stand behind the others.
use Rattle.std.proofs.Common.{take}
use Rattle.hierarchy.specs.Spots.{placed_from, source_at, AddsSpots}
use Rattle.hierarchy.proofs.spots.gather_tile.Given as goal

abbrev pub invariant-loop-node : goal.invariant-loop-node
invariant-loop-node l = AddsSpots l.level l.tiles l.fn.spots.items l.spots.items (placed_from l.level (source_at l.tiles l.source).tile (take l.node (source_at l.tiles l.source).nodes))
