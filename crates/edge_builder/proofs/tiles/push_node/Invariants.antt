-- The node has the edges so far.
use Rattle.std.proofs.Common.{◌≡◌, ◌++◌, ◌∷◌, [], get_or}
use Rattle.work_tile.specs.WorkRows.{work_node_with}
use Rattle.edge_builder.proofs.JunctionLemmas.{no_junction}
use Rattle.edge_builder.proofs.NodeLemmas.{edges_so_far}
use Rattle.edge_builder.proofs.tiles.push_node.Given as goal

abbrev pub invariant-loop-local : goal.invariant-loop-local
invariant-loop-local l =
    l.rows ≡ record l.fn.rows { nodes = l.fn.rows.nodes ++ work_node_with (get_or l.plan.junctions.now l.junction no_junction) (edges_so_far l.plan.junctions.now l.plan.pieces.now l.places l.local) ∷ [] }
