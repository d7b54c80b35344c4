-- A node with its density and enhanced edges.
use Rattle.std.proofs.Common.{◌≡◌, ℕ, List, map}
use Rattle.road_pieces.specs.declared.rows.Junction.{Junction}
use Rattle.road_pieces.specs.declared.rows.Piece.{Piece}
use Rattle.work_tile.specs.declared.edge_rows.WorkEdge.{WorkEdge}
use Rattle.work_tile.specs.WorkRows.{WorkNode, WorkRows, rated_node}
use Rattle.enhancer.specs.Density.{density_of}
use Rattle.enhancer.specs.Enhanced.{enhanced_edge, enhanced_node}

pub node_is : (pieces : List Piece) (places : List ℕ) (ps : List WorkRows) (level tile : ℕ) (node : WorkNode) (j : Junction) (density : ℕ) (edges : List WorkEdge)
    → rated_node j node.density node.edges ≡ node → density ≡ density_of node.at ps → edges ≡ map (enhanced_edge pieces places ps level tile node.osm) node.edges
    → rated_node j density edges ≡ enhanced_node pieces places ps level tile node
node_is pieces places ps level tile node j density edges e d es = λ i. record (e i) { density = d i; edges = es i }
