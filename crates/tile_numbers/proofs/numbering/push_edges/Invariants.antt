-- The records of the edges so far stand behind the others.
use Rattle.std.proofs.Common.{◌≡◌, ◌++◌, take}
use Rattle.tile_numbers.specs.Records.{numbered_edges}
use Rattle.tile_numbers.proofs.numbering.push_edges.Given as goal

abbrev pub invariant-loop-k : goal.invariant-loop-k
invariant-loop-k l = l.edges.items ≡ l.fn.edges.items ++ numbered_edges l.tiles l.level l.tile (take l.k l.node.edges) (take l.k l.offsets)
