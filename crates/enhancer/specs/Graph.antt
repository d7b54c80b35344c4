-- The graph of the junctions of all tiles, read from their rows. `places` has the numbers of the tiles, in their order.
use Rattle.std.specs.Prelude.{ℕ, ℤ, ◌==◌, ◌&&◌, Option, Some, None, Bool, List, [], ◌∷◌, slice_get, if◌then◌else◌, position}
use Rattle.std.specs.Ordering.{int_eq}
use Rattle.bounded_flood.specs.Flood.{cut_off}
use Rattle.bounded_flood.specs.FlatGraph.{side_limit}
use Rattle.work_tile.specs.declared.edge_rows.WorkEdge.{WorkEdge}
use Rattle.work_tile.specs.Places.{tile_number}
use Rattle.work_tile.specs.WorkRows.{WorkNode, WorkRows}
use Rattle.enhancer.specs.declared.names.NodeName.{NodeName}

abbrev pub same_node : NodeName → NodeName → Bool
same_node a b = (a.tile == b.tile) && int_eq a.osm b.osm

-- the element at this place, if there is one
abbrev pub at_position : {A : Type 0} → List A → Option ℕ → Option A
at_position xs None = None
at_position xs (Some i) = slice_get xs i

-- the rows of the tile with this number on a level
abbrev pub rows_of : List ℕ → List WorkRows → ℕ → ℕ → Option WorkRows
rows_of places ps level tile = at_position ps (position (λ n. n == tile_number level tile) places)

-- the node with this OSM id
abbrev pub node_named : WorkRows → ℤ → Option WorkNode
node_named rows osm = at_position rows.nodes (position (λ n. int_eq n.osm osm) rows.nodes)

abbrev pub edges_of_node : Option WorkNode → List WorkEdge
edges_of_node None = []
edges_of_node (Some node) = node.edges

abbrev pub edges_in_rows : ℤ → Option WorkRows → List WorkEdge
edges_in_rows osm None = []
edges_in_rows osm (Some rows) = edges_of_node (node_named rows osm)

-- the edges that start at a junction
abbrev pub edges_at : List ℕ → List WorkRows → ℕ → NodeName → List WorkEdge
edges_at places ps level at = edges_in_rows at.osm (rows_of places ps level at.tile)

-- the junction where an edge ends
abbrev pub end_of : WorkEdge → NodeName
end_of edge = record { tile = edge.end_tile; osm = edge.end }

-- the ends of these edges, but for those of one piece
abbrev pub ends_but : ℕ → List WorkEdge → List NodeName
ends_but left [] = []
ends_but left (e ∷ es) = if e.place == left then ends_but left es else end_of e ∷ ends_but left es

-- the junctions that a piece leads to from this one, with one piece left out
abbrev pub near : List ℕ → List WorkRows → ℕ → ℕ → NodeName → List NodeName
near places ps level left at = ends_but left (edges_at places ps level at)

-- whether few junctions lie behind a piece from u to v: without it at most 63 junctions are linked to v, itself among
-- them, and u isn't one of them
abbrev pub leads_nowhere : List ℕ → List WorkRows → ℕ → ℕ → NodeName → NodeName → Bool
leads_nowhere places ps level left u v = cut_off same_node (near places ps level left) side_limit u v
