-- The tiles of the junctions so far.
use Rattle.std.proofs.Common.{◌≡◌, map, take}
use Rattle.edge_builder.specs.BaseRows.{junction_tile}
use Rattle.edge_builder.proofs.starts.junction_tiles.Given as goal

abbrev pub invariant-loop-junction : goal.invariant-loop-junction
invariant-loop-junction l = l.tiles.items ≡ map junction_tile (take l.junction-index l.junctions)
