-- What others may read of a tile while it is enhanced: its rows, in which each field that is written meanwhile has the
-- value that it has at first.
use Rattle.std.specs.Prelude.{false, map}
use Rattle.work_tile.specs.declared.edge_rows.WorkEdge.{WorkEdge}
use Rattle.work_tile.specs.WorkRows.{WorkNode, WorkRows}

abbrev pub plain_edge : WorkEdge → WorkEdge
plain_edge edge = record edge { consistency = 0; not_thru = false }

abbrev pub plain_node : WorkNode → WorkNode
plain_node node = record node { density = 0; edges = map plain_edge node.edges }

abbrev pub plain_rows : WorkRows → WorkRows
plain_rows rows = record rows { nodes = map plain_node rows.nodes }
