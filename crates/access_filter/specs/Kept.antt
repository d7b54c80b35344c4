-- What is kept of tiles: the edges of pieces that an asked mode may use in some direction, the nodes where such an
-- edge starts, and the tiles that have such a node. All else of them stays.
use Rattle.std.specs.Prelude.{ℕ, Bool, List, length, map, nat_eq, nat_lt, bit_and, bit_or, not}
use Rattle.std.specs.List.{filter}
use Rattle.work_tile.specs.declared.edge_rows.WorkEdge.{WorkEdge}
use Rattle.work_tile.specs.WorkRows.{WorkNode, WorkRows}

-- an asked mode may use the edge's piece, as the edge runs or the other way
abbrev pub is_kept_edge : ℕ → WorkEdge → Bool
is_kept_edge modes edge = not (nat_eq (bit_and (bit_or edge.forward_access edge.reverse_access) modes) 0)

-- the node with those of its edges that are kept
abbrev pub kept_node : ℕ → WorkNode → WorkNode
kept_node modes node = record node { edges = filter (is_kept_edge modes) node.edges }

-- the nodes that keep an edge
unfoldable pub kept_nodes : ℕ → List WorkNode → List WorkNode
kept_nodes modes nodes = filter (λ node. nat_lt 0 (length node.edges)) (map (kept_node modes) nodes)

abbrev pub kept_rows : ℕ → WorkRows → WorkRows
kept_rows modes rows = record rows { nodes = kept_nodes modes rows.nodes }

-- the tiles that keep a node
unfoldable pub kept_tiles : ℕ → List WorkRows → List WorkRows
kept_tiles modes tiles = filter (λ tile. nat_lt 0 (length tile.nodes)) (map (kept_rows modes) tiles)
