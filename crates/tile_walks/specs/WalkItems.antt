-- Which items are a walk over a graph.
use Rattle.std.specs.Prelude.{◌≡◌, ℕ, ℤ, List, [], ◌∷◌, slice_get, Some}
use Rattle.std.specs.List.{AllZip, Contains}
use Rattle.road_pieces.specs.Paths.{Stands}
use Rattle.road_pieces.specs.Modes.{ShareMode}
use Rattle.tile_graph.specs.Graphs.{Graph, GraphSequence, GraphItem, edge_item, transition_item, TileWalk}
use Rattle.tile_walks.specs.declared.items.WalkItem.{WalkItem}
use Rattle.tile_walks.specs.declared.items.WalkItem.TheVariants as items

-- an item of the graph is named by its edge's GraphId, or by a node's and a place among that node's transitions
abbrev pub Names : WalkItem → GraphItem → Type 0
Names (items.Edge id) (edge_item n e) = e.id ≡ id
Names (items.Edge id) (transition_item n m) = ⊥
Names (items.Transition from place) (edge_item n e) = ⊥
Names (items.Transition from place) (transition_item n m) = (n.id ≡ from) × (slice_get n.transitions place ≡ Some m.id)

-- the items, in order, are those of a walk
pub record IsWalkOf (g : Graph) (vehicles mode : ℕ) (named : List WalkItem) : Type 0 where
  pub a : ℤ
  pub b : ℤ
  pub total : ℕ
  pub walk : TileWalk g vehicles mode a b total
  pub names : AllZip Names named walk.items

-- the edges that the items name, in order
abbrev pub edges_named : List WalkItem → List ℕ
edges_named [] = []
edges_named (items.Edge id ∷ named) = id ∷ edges_named named
edges_named (items.Transition from place ∷ named) = edges_named named

-- no sequence that has the mode stands among the edges
abbrev pub IsPermitted : Graph → ℕ → List WalkItem → Type 0
IsPermitted g mode named = (s : GraphSequence) → Contains g.sequences s → ShareMode s.modes mode → Stands s.edges (edges_named named) → ⊥
