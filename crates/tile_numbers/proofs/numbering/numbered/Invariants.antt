-- The records of the nodes so far, of their edges, and their transitions.
use Rattle.tile_numbers.specs.Progress.{AreSoFar}
use Rattle.tile_numbers.proofs.numbering.numbered.Given as goal

abbrev pub invariant-loop-k : goal.invariant-loop-k
invariant-loop-k l = AreSoFar l.tiles l.rows l.offsets l.k l.tile.nodes.items l.tile.edges.items l.tile.transitions.items
