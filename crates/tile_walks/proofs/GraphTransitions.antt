-- The transitions of the graph of tiles are those of the tiles.
use Rattle.std.proofs.Common.{◌≡◌, ℕ, zero, suc, ◌+◌, ◌<◌, List, [], ◌∷◌, map, Some, None, Bool, true, false, cond, refl, sym, ◌∙◌, ap, subst}
use Rattle.std.specs.Prelude.{slice_get, nat_lt}
use Rattle.std.specs.List.{Contains}
use Rattle.std.proofs.lemmas.Bool.{ltb-true, lt-ltb}
use Rattle.tile_records.specs.Nodes.{NodeFields}
use Rattle.tile_bytes.specs.declared.tile.Tile.{Tile}
use Rattle.tile_graph.specs.Graphs.{GraphNode}
use Rattle.tile_graph.specs.Tiles.{node_under}
use Rattle.tile_walks.specs.FileTiles.{fields_of_tile, file_graph}
use Rattle.tile_walks.specs.Steps.{IsTransitionOf, transition_in}
use Rattle.tile_walks.proofs.Options.{told, none_some}
use Rattle.tile_walks.proofs.Transitions.{get_map}
use Rattle.tile_walks.proofs.GraphRecords.{NodeAt, node_in, node_of, get_slice, in_slice}

get_unmap : {A B : Type 0} (f : A → B) (xs : List A) (p : ℕ) (y : B) → slice_get (map f xs) p ≡ Some y → (x : A) × (slice_get xs p ≡ Some x) × (f x ≡ y)
get_unmap f [] p y e = absurd (none_some y e)
get_unmap f (x ∷ xs) zero y e = (x, refl, told (f x) y e)
get_unmap f (x ∷ xs) (suc p) y e = get_unmap f xs p y e

within : (t : Tile) (place : ℕ) (n : NodeFields) (to : ℕ) → transition_in t place n ≡ Some to → (place < n.transition_count) × (slice_get t.transitions (n.transition_index + place) ≡ Some to)
within t place n to e = by (nat_lt place n.transition_count) refl e
  where
    by : (b : Bool) → nat_lt place n.transition_count ≡ b → cond b (slice_get t.transitions (n.transition_index + place)) None ≡ Some to → (place < n.transition_count) × (slice_get t.transitions (n.transition_index + place) ≡ Some to)
    by true h e = (ltb-true place n.transition_count h, e)
    by false h e = absurd (none_some to e)

-- a transition of a node of the tiles
pub record Crosses (tiles : List Tile) (from place to : ℕ) : Type 0 where
  pub node : GraphNode
  pub there : Contains (file_graph tiles).nodes node
  pub is : node.id ≡ from
  pub at : slice_get node.transitions place ≡ Some to

pub crosses : (tiles : List Tile) (from place to : ℕ) → IsTransitionOf tiles from place to → Crosses tiles from place to
crosses tiles from place to one =
    let (n, at, leads) = get_unmap (transition_in one.tile place) one.tile.nodes one.place (Some to) one.at in
    let (below, there) = within one.tile place n to leads in
    record {
      node = node_under (fields_of_tile one.tile) one.place n;
      there = node_in tiles one.tile one.place n one.there at;
      is = one.named;
      at = get_slice n.transition_index n.transition_count one.tile.transitions place (n.transition_index + place) to below refl there;
    }

pub crosses_back : (tiles : List Tile) (n : GraphNode) (place to : ℕ) → Contains (file_graph tiles).nodes n → slice_get n.transitions place ≡ Some to → IsTransitionOf tiles n.id place to
crosses_back tiles n place to there at =
    let a : NodeAt tiles n = node_of tiles n there in
    let s = in_slice a.node.transition_index a.node.transition_count a.tile.transitions place to (subst (λ n. slice_get n.transitions place ≡ Some to) (sym a.is) at) in
    let leads : transition_in a.tile place a.node ≡ Some to =
    ap (λ b. cond b (slice_get a.tile.transitions (a.node.transition_index + place)) None) (lt-ltb place a.node.transition_count s.below) ∙ s.at in
    record {
      tile = a.tile;
      there = a.there;
      place = a.place;
      at = sym (get_map (transition_in a.tile place) a.tile.nodes a.place a.node (sym a.at)) ∙ ap Some leads;
      named = ap (λ n. n.id) a.is;
    }
