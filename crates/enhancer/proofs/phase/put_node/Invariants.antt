-- The node has the edges so far.
use Rattle.std.proofs.Common.{◌≡◌, ◌++◌, ◌∷◌, [], take}
use Rattle.work_tile.specs.WorkRows.{rated_node}
use Rattle.enhancer.proofs.phase.put_node.Given as goal

abbrev pub invariant-loop-edge : goal.invariant-loop-edge
invariant-loop-edge l =
    l.done ≡ record l.fn.done { nodes = l.fn.done.nodes ++ rated_node l.fn.junction l.density (take l.edge-index l.edges) ∷ [] }
