-- The records with a GraphId are those of the graph.
use Rattle.std.specs.Prelude.{◌≡◌, ℕ, List, All}
use Rattle.std.specs.List.{Contains}
use Rattle.tile_records.specs.Nodes.{NodeFields}
use Rattle.tile_records.specs.Edges.{EdgeFields}
use Rattle.tile_bytes.specs.declared.tile.Tile.{Tile}
use Rattle.tile_bytes.specs.Tiles.{PassesChecks}
use Rattle.tile_graph.specs.Graphs.{GraphNode, GraphEdge}
use Rattle.tile_graph.specs.Tiles.{edge_under}
use Rattle.tile_walks.specs.FileTiles.{file_graph}
use Rattle.tile_walks.specs.Records.{IsNodeOf, IsEdgeOf}

-- a node of the graph with the id, the OSM id and the access of a record
pub record IsNodeFor (n : GraphNode) (id : ℕ) (r : NodeFields) : Type 0 where
  pub id_is : n.id ≡ id
  pub osm_is : n.osm ≡ r.osm
  pub access_is : n.access ≡ r.access

-- each node with a GraphId is one of the graph, and the other way round
pub record NodesAreOfGraph (tiles : List Tile) : Type 0 where
  pub to : (id : ℕ) (r : NodeFields) → IsNodeOf tiles id r → (n : GraphNode) × Contains (file_graph tiles).nodes n × IsNodeFor n id r
  pub back : (n : GraphNode) → Contains (file_graph tiles).nodes n → (r : NodeFields) × IsNodeOf tiles n.id r × IsNodeFor n n.id r

-- each edge with a GraphId is one of some node of the graph, and the other way round
pub record EdgesAreOfGraph (tiles : List Tile) : Type 0 where
  pub to : (id : ℕ) (e : EdgeFields) → IsEdgeOf tiles id e → (n : GraphNode) × Contains (file_graph tiles).nodes n × Contains n.edges (edge_under id e)
  pub back : (n : GraphNode) (e : GraphEdge) → Contains (file_graph tiles).nodes n → Contains n.edges e → (f : EdgeFields) × IsEdgeOf tiles e.id f × (edge_under e.id f ≡ e)

-- The law, for tiles that pass the checks of a tile file.
abbrev pub RecordsAreOfGraph : Type 0
RecordsAreOfGraph = (tiles : List Tile) → All PassesChecks tiles → NodesAreOfGraph tiles × EdgesAreOfGraph tiles
