-- The spots of the tiles so far.
use Rattle.std.proofs.Common.{[], take}
use Rattle.hierarchy.specs.Spots.{placed_nodes, AddsSpots}
use Rattle.hierarchy.proofs.spots.gather.Given as goal

abbrev pub invariant-loop-source : goal.invariant-loop-source
invariant-loop-source l = AddsSpots l.level l.tiles [] l.spots.items (placed_nodes l.level (take l.source l.tiles))
