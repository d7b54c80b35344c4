-- The links of the graph of tiles, and of the tiles.
use Rattle.std.proofs.Common.{◌≡◌, ℕ, zero, suc, ◌+◌, ◌<◌, ◌≤◌, ◌^◌, List, [], ◌∷◌, ◌++◌, Some, refl, sym, ◌∙◌, ap, subst, arith, inl, inr}
use Rattle.std.specs.Prelude.{All, slice_get, slice_index_or, nat_le, nat_eq, ◌&&◌}
use Rattle.std.specs.List.{Contains}
use Rattle.std.proofs.lemmas.Bool.{cases_lt, and_parts, eqb-true}
use Rattle.std.proofs.lemmas.Option.{slice_get_within}
use Rattle.std.proofs.lemmas.List.{get_or_default}
use Rattle.std.proofs.lemmas.List.Sums.{sum_by_push, sum_by-cons}
use Rattle.road_pieces.specs.Modes.{ShareMode}
use Rattle.graph_id.specs.GraphId.{level_of, tile_of_id, value_of}
use Rattle.tile_records.specs.Nodes.{NodeFields}
use Rattle.tile_records.specs.Edges.{EdgeFields}
use Rattle.section_grammar.specs.Reads.{AllGood}
use Rattle.tile_bytes.specs.declared.tile.Tile.{Tile}
use Rattle.tile_bytes.specs.Items.{IsNodeRecord, edges_of_nodes, transitions_of_nodes, lies_in, place_of_node, rises, has_lower_id}
use Rattle.tile_bytes.specs.Tiles.{PassesChecks}
use Rattle.tile_graph.specs.Graphs.{GraphEdge, GraphNode}
use Rattle.tile_graph.specs.Tiles.{edge_under, node_under}
use Rattle.tile_walks.specs.FileTiles.{fields_of_tile, file_graph}
use Rattle.tile_walks.specs.Keys.{key_of, keys_of, Rise}
use Rattle.tile_walks.specs.Records.{IsNodeOf, IsEdgeOf}
use Rattle.tile_walks.specs.Steps.{StartsAt, IsOpen}
use Rattle.tile_walks.proofs.IdLaws.{key_in, place_in}
use Rattle.tile_walks.proofs.Lookup.{key_at, one_place, length_keys}
use Rattle.tile_walks.proofs.GraphRecords.{EdgeAt, edge_in, edge_of, NodeAt, node_in, node_of}

-- ---- one tile

unique_tile : (tiles : List Tile) → Rise (keys_of tiles) → (t s : Tile) → Contains tiles t → Contains tiles s → key_of t.id ≡ key_of s.id → t ≡ s
unique_tile tiles rises t s (i, inside, is) (j, there, at) same =
    let n = length_keys tiles (keys_of tiles) refl in
    let one : i ≡ j = one_place (keys_of tiles) rises i j (omega (arith, inside, n)) (omega (arith, there, n))
    (key_at tiles (keys_of tiles) i t refl inside is ∙ (same ∙ sym (key_at tiles (keys_of tiles) j s refl there at))) in
    sym is ∙ (get_or_default tiles i t s inside ∙ (ap (λ i. slice_index_or tiles i s) one ∙ at))

checks_of : (tiles : List Tile) → All PassesChecks tiles → (t : Tile) → Contains tiles t → PassesChecks t
checks_of tiles all t (k, inside, is) = subst PassesChecks is (all k t inside)

-- a place of an edge fits a GraphId
place_fits : (t : Tile) → PassesChecks t → (q : ℕ) (e : EdgeFields) → slice_get t.edges q ≡ Some e → q < 2 ^ 21
place_fits t checks q e at =
    let inside = slice_get_within t.edges q e at in
    let few = checks.few_edges in
    omega (arith, inside, few)

small_id : (t place id : ℕ) → value_of (level_of t) (tile_of_id t) place ≡ id → place < 2 ^ 21 → id < 2 ^ 46
small_id t place id e h = omega (arith, e, h)

-- ---- edges of nodes

pub record Leaves (tiles : List Tile) (id : ℕ) (e : EdgeFields) (n : GraphNode) : Type 0 where
  pub there : Contains (file_graph tiles).nodes n
  pub own : Contains n.edges (edge_under id e)

leaves : (tiles : List Tile) (t : Tile) (p q id : ℕ) (r : NodeFields) (e : EdgeFields) → Contains tiles t → slice_get t.nodes p ≡ Some r → slice_get t.edges q ≡ Some e → value_of (level_of t.id) (tile_of_id t.id) q ≡ id → r.edge_index ≤ q → q < r.edge_index + r.edge_count → Leaves tiles id e (node_under (fields_of_tile t) p r)
leaves tiles t p q id r e there at edge_at named from below = record {
  there = node_in tiles t p r there at;
  own = edge_in (fields_of_tile t) p r (edge_under id e) (record { place = q; from = from; below = below; edge = e; at = edge_at; is = ap (λ i. edge_under i e) named });
}

-- an edge that starts at a node
pub edge_from : (tiles : List Tile) → All PassesChecks tiles → Rise (keys_of tiles) → (id a : ℕ) (e : EdgeFields) → IsEdgeOf tiles id e → StartsAt tiles (Some a) id → (n : GraphNode) × (n.id ≡ a) × Leaves tiles id e n
edge_from tiles all rises id a e one (r, node, has) =
    let same : one.tile ≡ node.tile = unique_tile tiles rises one.tile node.tile one.there node.there
    (sym (key_in one.tile.id one.place id one.named) ∙ (sym has.0 ∙ key_in node.tile.id node.place a node.named)) in
    let fits = place_fits one.tile (checks_of tiles all one.tile one.there) one.place e one.at in
    let spot = place_in one.tile.id one.place id one.named (small_id one.tile.id one.place id one.named fits) in
    let at : slice_get node.tile.edges one.place ≡ Some e = subst (λ t. slice_get t.edges one.place ≡ Some e) same one.at in
    let named : value_of (level_of node.tile.id) (tile_of_id node.tile.id) one.place ≡ id = subst (λ t. value_of (level_of t.id) (tile_of_id t.id) one.place ≡ id) same one.named in
    let from = has.1 in
    let below = has.2 in (
      node_under (fields_of_tile node.tile) node.place r,
      node.named,
      leaves tiles node.tile node.place one.place id r e node.there node.at at named (omega (arith, from, spot)) (omega (arith, below, spot)),
    )

-- each edge of a tile is one of some node's
index_is : (level tile : ℕ) (before : List NodeFields) (n : NodeFields) → IsNodeRecord level tile before n → n.edge_index ≡ edges_of_nodes before
index_is level tile before n good =
    let a = lies_in level tile (place_of_node n) in
    let b = nat_eq n.edge_index (edges_of_nodes before) in
    let c = nat_eq n.transition_index (transitions_of_nodes before) in
    let d = nat_le 1 n.edge_count in
    let f = nat_le n.transition_count 2 in
    let (front, last) = and_parts (a && b && c && d && f) (rises has_lower_id before n) good.passes_so in
    let (front2, two) = and_parts (a && b && c && d) f front in
    let (front3, some) = and_parts (a && b && c) d front2 in
    let (front4, third) = and_parts (a && b) c front3 in
    let (front5, second) = and_parts a b front4 in
    eqb-true n.edge_index (edges_of_nodes before) second

cover : (level tile : ℕ) (before ns : List NodeFields) → AllGood (IsNodeRecord level tile) before ns → (q : ℕ) → edges_of_nodes before ≤ q → q < edges_of_nodes before + edges_of_nodes ns → (p : ℕ) × (r : NodeFields) × (slice_get ns p ≡ Some r) × (r.edge_index ≤ q) × (q < r.edge_index + r.edge_count)
cover level tile before [] good q from below = absurd (omega (arith, from, below))
cover level tile before (n ∷ ns) good q from below =
    let index = index_is level tile before n good.0 in
    let sum = sum_by-cons (λ n. n.edge_count) n ns in
    let more = sum_by_push (λ n. n.edge_count) before n in
    elim (cases_lt q (n.edge_index + n.edge_count)) [
      | inl here ↦ (zero, n, refl, omega (arith, index, from), here)
      | inr past ↦
          let (p, r, at, low, high) = cover level tile (before ++ n ∷ []) ns good.1 q (omega (arith, index, past, more)) (omega (arith, below, sum, more)) in
          (suc p, r, at, low, high)
    ]

pub edge_somewhere : (tiles : List Tile) → All PassesChecks tiles → (id : ℕ) (e : EdgeFields) → IsEdgeOf tiles id e → (n : GraphNode) × Leaves tiles id e n
edge_somewhere tiles all id e one =
    let checks = checks_of tiles all one.tile one.there in
    let inside = slice_get_within one.tile.edges one.place e one.at in
    let counts = checks.edge_counts in
    let (p, r, at, low, high) = cover (level_of one.tile.id) (tile_of_id one.tile.id) [] one.tile.nodes checks.nodes one.place (omega arith) (omega (arith, inside, counts)) in
    (node_under (fields_of_tile one.tile) p r, leaves tiles one.tile p one.place id r e one.there at one.at one.named low high)

-- an edge of the graph is one of the tiles, and starts at its node
pub record EdgeBack (tiles : List Tile) (n : GraphNode) (e : GraphEdge) : Type 0 where
  pub edge : EdgeFields
  pub one : IsEdgeOf tiles e.id edge
  pub is : edge_under e.id edge ≡ e
  pub starts : StartsAt tiles (Some n.id) e.id

pub edge_back : (tiles : List Tile) → All PassesChecks tiles → (n : GraphNode) (e : GraphEdge) → Contains (file_graph tiles).nodes n → Contains n.edges e → EdgeBack tiles n e
edge_back tiles all n e there own =
    let a : NodeAt tiles n = node_of tiles n there in
    let b : EdgeAt (fields_of_tile a.tile) a.node e = edge_of (fields_of_tile a.tile) a.place a.node e (subst (λ n. Contains n.edges e) (sym a.is) own) in
    let node_named : value_of (level_of a.tile.id) (tile_of_id a.tile.id) a.place ≡ n.id = ap (λ n. n.id) a.is in
    let named : value_of (level_of a.tile.id) (tile_of_id a.tile.id) b.place ≡ e.id = ap (λ e. e.id) b.is in
    let fits = place_fits a.tile (checks_of tiles all a.tile a.there) b.place b.edge b.at in
    let spot = place_in a.tile.id b.place e.id named (small_id a.tile.id b.place e.id named fits) in
    let from = b.from in
    let below = b.below in
    record {
      edge = b.edge;
      one = record { tile = a.tile; there = a.there; place = b.place; at = b.at; named = named };
      is = ap (λ i. edge_under i b.edge) (sym named) ∙ b.is;
      starts = (
        a.node,
        record { tile = a.tile; there = a.there; place = a.place; at = a.at; named = node_named },
        (key_in a.tile.id a.place n.id node_named ∙ sym (key_in a.tile.id b.place e.id named), omega (arith, from, spot), omega (arith, below, spot)),
      );
    }

-- ---- nodes

pub node_back : (tiles : List Tile) (n : GraphNode) → Contains (file_graph tiles).nodes n → (r : NodeFields) × IsNodeOf tiles n.id r × (n.access ≡ r.access)
node_back tiles n there =
    let a = node_of tiles n there in
    (a.node, record { tile = a.tile; there = a.there; place = a.place; at = a.at; named = ap (λ n. n.id) a.is }, ap (λ n. n.access) (sym a.is))

pub node_to : (tiles : List Tile) (id : ℕ) (r : NodeFields) → IsNodeOf tiles id r → (n : GraphNode) × Contains (file_graph tiles).nodes n × (n.id ≡ id) × (n.access ≡ r.access)
node_to tiles id r one = (node_under (fields_of_tile one.tile) one.place r, node_in tiles one.tile one.place r one.there one.at, one.named, refl)

pub open_to : (tiles : List Tile) (mode id : ℕ) → IsOpen tiles mode id → (n : GraphNode) → Contains (file_graph tiles).nodes n → n.id ≡ id → ShareMode n.access mode
open_to tiles mode id opens n there same =
    let (r, one, access) = node_back tiles n there in
    subst (λ a. ShareMode a mode) (sym access) (opens r (subst (λ i. IsNodeOf tiles i r) same one))

pub open_back : (tiles : List Tile) (mode id : ℕ) → ((n : GraphNode) → Contains (file_graph tiles).nodes n → n.id ≡ id → ShareMode n.access mode) → IsOpen tiles mode id
open_back tiles mode id opens r one =
    let (n, there, same, access) = node_to tiles id r one in
    subst (λ a. ShareMode a mode) access (opens n there same)
