-- A hub of four streets: nodes 1 to 4 with an edge to node 5 and one back, each of 10 centimetres. The mask of the edge
-- from node 1 forbids a vehicle to go on to node 2, whose edge has the local index 1.
use Rattle.std.proofs.Common.{◌≡◌, ℕ, ◌+◌, pos, [], ◌∷◌, refl, arith, lit≤}
use Rattle.std.specs.List.{Contains}
use Rattle.std.proofs.lemmas.List.Elements.{All-cons, All-nil, All-contains}
use Rattle.std.specs.Prelude.{All}
use Rattle.road_pieces.specs.Modes.{all_mode_bits, vehicle_mode_bits, ShareMode}
use Rattle.tile_graph.specs.Graphs.{GraphNode, GraphEdge, Graph, edge_item, MayTakeNext, TileWalk}

abbrev edge_in : ℕ → ℕ → GraphEdge
edge_in k mask = record { id = 100 + k; end = 5; mask = mask; local_index = 0; access = all_mode_bits; cm = 10 }

abbrev edge_out : ℕ → ℕ → GraphEdge
edge_out k index = record { id = 200 + k; end = k; mask = 0; local_index = index; access = all_mode_bits; cm = 10 }

abbrev end_node : ℕ → ℕ → GraphNode
end_node k mask = record { id = k; osm = pos k; access = all_mode_bits; edges = edge_in k mask ∷ []; transitions = [] }

abbrev hub_node : GraphNode
hub_node = record { id = 5; osm = pos 5; access = all_mode_bits; edges = edge_out 1 0 ∷ edge_out 2 1 ∷ edge_out 3 2 ∷ edge_out 4 3 ∷ []; transitions = [] }

abbrev hub : Graph
hub = record { nodes = end_node 1 2 ∷ end_node 2 0 ∷ end_node 3 0 ∷ end_node 4 0 ∷ hub_node ∷ []; sequences = [] }

-- each node is open to the mode
Opens : ℕ → GraphNode → Type 0
Opens mode n = ShareMode n.access mode

all_open : (mode : ℕ) → ShareMode all_mode_bits mode → All (Opens mode) hub.nodes
unfolding Opens
all_open mode has =
    All-cons (Opens mode) (end_node 1 2) (end_node 2 0 ∷ end_node 3 0 ∷ end_node 4 0 ∷ hub_node ∷ []) has
    (All-cons (Opens mode) (end_node 2 0) (end_node 3 0 ∷ end_node 4 0 ∷ hub_node ∷ []) has
    (All-cons (Opens mode) (end_node 3 0) (end_node 4 0 ∷ hub_node ∷ []) has
    (All-cons (Opens mode) (end_node 4 0) (hub_node ∷ []) has
    (All-cons (Opens mode) hub_node [] has (All-nil (Opens mode))))))

passes : (mode : ℕ) → ShareMode all_mode_bits mode → (e : GraphEdge) (n : GraphNode) → Contains hub.nodes n → n.id ≡ e.end → ShareMode n.access mode
unfolding Opens
passes mode has e n there is = All-contains (Opens mode) hub.nodes n (all_open mode has) there

-- a car may not go on from node 1 to node 2
no_left_turn : MayTakeNext hub vehicle_mode_bits 1 (edge_in 1 2) (edge_out 2 1) → ⊥
no_left_turn may = may.1 (λ h. omega (arith, h)) (λ h. omega (arith, h))

-- a pedestrian may
on_foot : TileWalk hub vehicle_mode_bits 2 (pos 1) (pos 2) 20
on_foot = record {
  start = end_node 1 2;
  start_there = (0, lit≤ tt, refl);
  starts = refl;
  end = end_node 2 0;
  end_there = (1, lit≤ tt, refl);
  ends = refl;
  items = edge_item (end_node 1 2) (edge_in 1 2) ∷ edge_item hub_node (edge_out 2 1) ∷ [];
  leads = (((0, lit≤ tt, refl), (0, lit≤ tt, refl), λ h. omega (arith, h)), refl, tt, (((4, lit≤ tt, refl), (1, lit≤ tt, refl), λ h. omega (arith, h)), refl, tt, refl));
  follow = ((passes 2 (λ h. omega (arith, h)) (edge_in 1 2), λ vehicle bit. vehicle refl), (tt, tt));
  permitted = λ s there has stands. omega (arith, there.1);
  length_is = refl;
}

-- and a car may go to node 3
by_car : TileWalk hub vehicle_mode_bits 1 (pos 1) (pos 3) 20
by_car = record {
  start = end_node 1 2;
  start_there = (0, lit≤ tt, refl);
  starts = refl;
  end = end_node 3 0;
  end_there = (2, lit≤ tt, refl);
  ends = refl;
  items = edge_item (end_node 1 2) (edge_in 1 2) ∷ edge_item hub_node (edge_out 3 2) ∷ [];
  leads = (((0, lit≤ tt, refl), (0, lit≤ tt, refl), λ h. omega (arith, h)), refl, tt, (((4, lit≤ tt, refl), (2, lit≤ tt, refl), λ h. omega (arith, h)), refl, tt, refl));
  follow = ((passes 1 (λ h. omega (arith, h)) (edge_in 1 2), λ vehicle bit. bit refl), (tt, tt));
  permitted = λ s there has stands. omega (arith, there.1);
  length_is = refl;
}
