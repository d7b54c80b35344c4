-- What a tile is while it is built: its nodes, each with the edges that start there.
use Rattle.std.specs.Prelude.{◌≤◌, ℕ, ℤ, Bool, List, [], ◌∷◌, ◌++◌, length, slice_range}
use Rattle.fixed_geo.specs.declared.points.Point.{Point}
use Rattle.road_pieces.specs.declared.rows.Junction.{Junction}
use Rattle.work_tile.specs.declared.edge_rows.WorkEdge.{WorkEdge}
use Rattle.work_tile.specs.declared.node_rows.NodeRow.{NodeRow}

pub record WorkNode : Type 0 where
  pub osm : ℤ
  pub at : Point
  pub access : ℕ
  pub barrier : Bool
  pub density : ℕ
  pub edges : List WorkEdge

pub record WorkRows : Type 0 where
  pub level : ℕ
  pub tile : ℕ
  pub nodes : List WorkNode

-- the node of a junction, with a density and these edges
abbrev pub rated_node : Junction → ℕ → List WorkEdge → WorkNode
rated_node junction density edges = record {
  osm = junction.osm;
  at = junction.at;
  access = junction.access;
  barrier = junction.barrier;
  density = density;
  edges = edges;
}

-- .. where no density is told yet
abbrev pub work_node_with : Junction → List WorkEdge → WorkNode
work_node_with junction edges = rated_node junction 0 edges

-- the node with one more edge behind its others
abbrev pub with_edge : WorkNode → WorkEdge → WorkNode
with_edge node edge = record node { edges = node.edges ++ edge ∷ [] }

-- ---- how they are kept: the edges of all nodes one after the other, and of each node where its own begin

-- where the edges of the first of these nodes begin, and else the end of all edges
abbrev pub first_from : List NodeRow → ℕ → ℕ
first_from [] end = end
first_from (r ∷ rs) end = r.from

-- the nodes; the edges of each end where those of the next begin
unfoldable pub nodes_over : List WorkEdge → List NodeRow → List WorkNode
nodes_over edges [] = []
nodes_over edges (r ∷ rs) =
    rated_node r.junction r.density (slice_range edges r.from (first_from rs (length edges))) ∷ nodes_over edges rs

-- no node's edges begin behind those of the next, nor behind the end of all edges
unfoldable pub FromsRise : List NodeRow → ℕ → Type 0
FromsRise [] end = Unit {0}
FromsRise (r ∷ rs) end = (r.from ≤ first_from rs end) × FromsRise rs end
