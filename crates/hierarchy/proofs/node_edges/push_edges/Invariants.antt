-- The edges so far that are on the level stand behind those of the last node.
use Rattle.std.proofs.Common.{take}
use Rattle.hierarchy.proofs.EdgesPut.{ArePut, edges_on}
use Rattle.hierarchy.proofs.node_edges.push_edges.Given as goal

abbrev pub invariant-loop-k : goal.invariant-loop-k
invariant-loop-k l = ArePut l.fn.rows l.rows (edges_on l.level (take l.k l.node.edges))
