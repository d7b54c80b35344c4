-- The graph of a folder's records, each under its GraphId, and the walks over it.
use Rattle.std.specs.Prelude.{◌≡◌, ⊤, ℕ, ℤ, List, [], ◌∷◌, map, sum_by}
use Rattle.std.specs.Int.{IsBitSet}
use Rattle.std.specs.List.{Contains}
use Rattle.road_pieces.specs.Paths.{Leads, Stands}
use Rattle.road_pieces.specs.Following.{AllFollow}
use Rattle.road_pieces.specs.Modes.{ShareMode}

-- an edge, a shortcut too: its GraphId, that of its end node, its mask, its local index, the modes that may use it, and
-- its length in centimetres
pub record GraphEdge : Type 0 where
  pub id : ℕ
  pub end : ℕ
  pub mask : ℕ
  pub local_index : ℕ
  pub access : ℕ
  pub cm : ℕ

-- a node: its GraphId, its junction's OSM id, the modes that may pass it, the edges that start there, and the GraphIds of
-- the nodes to which it has a transition
pub record GraphNode : Type 0 where
  pub id : ℕ
  pub osm : ℤ
  pub access : ℕ
  pub edges : List GraphEdge
  pub transitions : List ℕ

-- edges that the modes may not take one after another
pub record GraphSequence : Type 0 where
  pub edges : List ℕ
  pub modes : ℕ

pub record Graph : Type 0 where
  pub nodes : List GraphNode
  pub sequences : List GraphSequence

-- an edge with the node at which it starts, or a transition from one node to another
pub data GraphItem : Type 0 where
  edge_item : GraphNode → GraphEdge → GraphItem
  transition_item : GraphNode → GraphNode → GraphItem

-- an item of the graph that the mode may use
abbrev pub IsGraphItem : Graph → ℕ → GraphItem → Type 0
IsGraphItem g mode (edge_item n e) = Contains g.nodes n × Contains n.edges e × ShareMode e.access mode
IsGraphItem g mode (transition_item n m) = Contains g.nodes n × Contains g.nodes m × Contains n.transitions m.id

-- the nodes where an item starts and ends
abbrev pub graph_start : GraphItem → ℕ
graph_start (edge_item n e) = n.id
graph_start (transition_item n m) = n.id

abbrev pub graph_end : GraphItem → ℕ
graph_end (edge_item n e) = e.end
graph_end (transition_item n m) = m.id

-- the edges among the items, in order
abbrev pub edges_taken : List GraphItem → List GraphEdge
edges_taken [] = []
edges_taken (edge_item n e ∷ items) = e ∷ edges_taken items
edges_taken (transition_item n m ∷ items) = edges_taken items

-- an edge that may come after another one, whatever transitions stand between: the node where the first ends is open to the
-- mode, and for a vehicle the mask of the first hasn't the bit of the second
abbrev pub MayTakeNext : Graph → ℕ → ℕ → GraphEdge → GraphEdge → Type 0
MayTakeNext g vehicles mode e f =
    ((n : GraphNode) → Contains g.nodes n → n.id ≡ e.end → ShareMode n.access mode) × (ShareMode vehicles mode → IsBitSet e.mask f.local_index → ⊥)

-- a walk over the items of the graph, from a node of one junction to a node of another: no sequence of the mode stands among
-- its edges; the lengths of the edges add up, and a transition has none
pub record TileWalk (g : Graph) (vehicles mode : ℕ) (a b : ℤ) (total : ℕ) : Type 0 where
  pub start : GraphNode
  pub start_there : Contains g.nodes start
  pub starts : start.osm ≡ a
  pub end : GraphNode
  pub end_there : Contains g.nodes end
  pub ends : end.osm ≡ b
  pub items : List GraphItem
  pub leads : Leads (IsGraphItem g mode) graph_start graph_end (λ i j. ⊤) start.id items end.id
  pub follow : AllFollow (MayTakeNext g vehicles mode) (edges_taken items)
  pub permitted : (s : GraphSequence) → Contains g.sequences s → ShareMode s.modes mode → Stands s.edges (map (λ e. e.id) (edges_taken items)) → ⊥
  pub length_is : sum_by (λ e. e.cm) (edges_taken items) ≡ total
