-- The records of the graph of tiles are those of the tiles.
use Rattle.std.proofs.Common.{◌≡◌, ℕ, zero, suc, ◌+◌, ◌-◌, ◌<◌, ◌≤◌, List, [], ◌∷◌, map, take, drop, Some, refl, sym, ◌∙◌, ap, subst, arith, inl, inr}
use Rattle.std.specs.Prelude.{slice_get}
use Rattle.std.specs.List.{Contains}
use Rattle.road_pieces.proofs.Members.{IsIn, in_from_contains, contains_from_in, in_flat, of_flat, in_map, of_map}
use Rattle.graph_id.specs.GraphId.{value_of}
use Rattle.tile_records.specs.Nodes.{NodeFields}
use Rattle.tile_records.specs.Edges.{EdgeFields}
use Rattle.tile_bytes.specs.declared.tile.Tile.{Tile}
use Rattle.tile_graph.specs.Graphs.{GraphEdge, GraphNode}
use Rattle.tile_graph.specs.Tiles.{TileFields, edge_under, edges_under, slice, node_under, nodes_under}
use Rattle.tile_walks.specs.FileTiles.{fields_of_tile, file_graph}
use Rattle.tile_walks.proofs.Options.{told, none_some}

-- ---- parts of lists

pub get_in : {A : Type 0} (xs : List A) (p : ℕ) (x : A) → slice_get xs p ≡ Some x → IsIn xs x
get_in [] p x e = absurd (none_some x e)
get_in (y ∷ ys) zero x e = inl (told y x e)
get_in (y ∷ ys) (suc p) x e = inr (get_in ys p x e)

get_drop : {A : Type 0} (k : ℕ) (xs : List A) (j m : ℕ) → k + j ≡ m → slice_get (drop k xs) j ≡ slice_get xs m
get_drop zero xs j m e = ap (slice_get xs) {x = j} {y = m} (omega (arith, e))
get_drop (suc k) [] j m e = refl
get_drop (suc k) (x ∷ xs) j zero e = absurd (omega (arith, e))
get_drop (suc k) (x ∷ xs) j (suc m) e = get_drop k xs j m (omega (arith, e))

get_take : {A : Type 0} (c : ℕ) (xs : List A) (j : ℕ) → j < c → slice_get (take c xs) j ≡ slice_get xs j
get_take zero xs j h = absurd (omega (arith, h))
get_take (suc c) [] j h = refl
get_take (suc c) (x ∷ xs) zero h = refl
get_take (suc c) (x ∷ xs) (suc j) h = get_take c xs j (omega (arith, h))

get_past : {A : Type 0} (c : ℕ) (xs : List A) (j : ℕ) (x : A) → slice_get (take c xs) j ≡ Some x → j < c
get_past zero xs j x e = absurd (none_some x e)
get_past (suc c) [] j x e = absurd (none_some x e)
get_past (suc c) (y ∷ xs) zero x e = omega arith
get_past (suc c) (y ∷ xs) (suc j) x e = let h = get_past c xs j x e in omega (arith, h)

-- a place of a slice
pub get_slice : {A : Type 0} (from count : ℕ) (xs : List A) (j m : ℕ) (x : A) → j < count → from + j ≡ m → slice_get xs m ≡ Some x → slice_get (slice from count xs) j ≡ Some x
get_slice from count xs j m x below e at = get_take count (drop from xs) j below ∙ (get_drop from xs j m e ∙ at)

pub record InSlice {A : Type 0} (from count : ℕ) (xs : List A) (j : ℕ) (x : A) : Type 0 where
  pub below : j < count
  pub at : slice_get xs (from + j) ≡ Some x

pub in_slice : {A : Type 0} (from count : ℕ) (xs : List A) (j : ℕ) (x : A) → slice_get (slice from count xs) j ≡ Some x → InSlice from count xs j x
in_slice from count xs j x e =
    let below = get_past count (drop from xs) j x e in
    record { below = below; at = sym (get_drop from xs j (from + j) refl) ∙ (sym (get_take count (drop from xs) j below) ∙ e) }

-- ---- edges

pub record EdgeAt (t : TileFields) (n : NodeFields) (e : GraphEdge) : Type 0 where
  pub place : ℕ
  pub from : n.edge_index ≤ place
  pub below : place < n.edge_index + n.edge_count
  pub edge : EdgeFields
  pub at : slice_get t.edges place ≡ Some edge
  pub is : edge_under (value_of t.level t.tile place) edge ≡ e

in_edges : (l t i : ℕ) (es : List EdgeFields) (j m : ℕ) (e : EdgeFields) → i + j ≡ m → slice_get es j ≡ Some e → IsIn (edges_under l t i es) (edge_under (value_of l t m) e)
in_edges l t i [] j m e sum at = absurd (none_some e at)
in_edges l t i (f ∷ es) zero m e sum at = inl (ap (λ k. edge_under (value_of l t k) f) {x = i} {y = m} (omega (arith, sum)) ∙ ap (edge_under (value_of l t m)) (told f e at))
in_edges l t i (f ∷ es) (suc j) m e sum at = inr (in_edges l t (suc i) es j m e (omega (arith, sum)) at)

of_edges : (l t i : ℕ) (es : List EdgeFields) (e : GraphEdge) → IsIn (edges_under l t i es) e → (j : ℕ) × (f : EdgeFields) × (slice_get es j ≡ Some f) × (edge_under (value_of l t (i + j)) f ≡ e)
of_edges l t i [] e h = absurd h
of_edges l t i (f ∷ es) e (inl is) = (zero, f, refl, ap (λ k. edge_under (value_of l t k) f) {x = i + 0} {y = i} (omega arith) ∙ is)
of_edges l t i (f ∷ es) e (inr later) =
    let (j, g, at, is) = of_edges l t (suc i) es e later in
    (suc j, g, at, ap (λ k. edge_under (value_of l t k) g) {x = i + suc j} {y = suc i + j} (omega arith) ∙ is)

pub edge_in : (t : TileFields) (p : ℕ) (n : NodeFields) (e : GraphEdge) → EdgeAt t n e → Contains (node_under t p n).edges e
edge_in t p n e a =
    let j : ℕ = a.place - n.edge_index in
    let sum : n.edge_index + j ≡ a.place = omega (arith, a.from) in
    let low : j < n.edge_count = omega (arith, a.from, a.below) in
    contains_from_in (node_under t p n).edges e
    (subst (IsIn (node_under t p n).edges) a.is
    (in_edges t.level t.tile n.edge_index (slice n.edge_index n.edge_count t.edges) j a.place a.edge sum (get_slice n.edge_index n.edge_count t.edges j a.place a.edge low sum a.at)))

pub edge_of : (t : TileFields) (p : ℕ) (n : NodeFields) (e : GraphEdge) → Contains (node_under t p n).edges e → EdgeAt t n e
edge_of t p n e there =
    let (j, f, at, is) = of_edges t.level t.tile n.edge_index (slice n.edge_index n.edge_count t.edges) e (in_from_contains (node_under t p n).edges e there) in
    let s = in_slice n.edge_index n.edge_count t.edges j f at in
    let low = s.below in
    record { place = n.edge_index + j; from = omega arith; below = omega (arith, low); edge = f; at = s.at; is = is }

-- ---- nodes

pub record NodeAt (tiles : List Tile) (n : GraphNode) : Type 0 where
  pub tile : Tile
  pub there : Contains tiles tile
  pub place : ℕ
  pub node : NodeFields
  pub at : slice_get tile.nodes place ≡ Some node
  pub is : node_under (fields_of_tile tile) place node ≡ n

in_nodes : (t : TileFields) (i : ℕ) (ns : List NodeFields) (j m : ℕ) (n : NodeFields) → i + j ≡ m → slice_get ns j ≡ Some n → IsIn (nodes_under t i ns) (node_under t m n)
in_nodes t i [] j m n sum at = absurd (none_some n at)
in_nodes t i (f ∷ ns) zero m n sum at = inl (ap (λ k. node_under t k f) {x = i} {y = m} (omega (arith, sum)) ∙ ap (node_under t m) (told f n at))
in_nodes t i (f ∷ ns) (suc j) m n sum at = inr (in_nodes t (suc i) ns j m n (omega (arith, sum)) at)

of_nodes : (t : TileFields) (i : ℕ) (ns : List NodeFields) (n : GraphNode) → IsIn (nodes_under t i ns) n → (j : ℕ) × (f : NodeFields) × (slice_get ns j ≡ Some f) × (node_under t (i + j) f ≡ n)
of_nodes t i [] n h = absurd h
of_nodes t i (f ∷ ns) n (inl is) = (zero, f, refl, ap (λ k. node_under t k f) {x = i + 0} {y = i} (omega arith) ∙ is)
of_nodes t i (f ∷ ns) n (inr later) =
    let (j, g, at, is) = of_nodes t (suc i) ns n later in
    (suc j, g, at, ap (λ k. node_under t k g) {x = i + suc j} {y = suc i + j} (omega arith) ∙ is)

pub node_in : (tiles : List Tile) (tile : Tile) (p : ℕ) (n : NodeFields) → Contains tiles tile → slice_get tile.nodes p ≡ Some n → Contains (file_graph tiles).nodes (node_under (fields_of_tile tile) p n)
node_in tiles tile p n there at =
    contains_from_in (file_graph tiles).nodes (node_under (fields_of_tile tile) p n)
    (in_flat (λ t. nodes_under t 0 t.nodes) (map fields_of_tile tiles) (fields_of_tile tile) (node_under (fields_of_tile tile) p n)
    (in_map fields_of_tile tiles tile (in_from_contains tiles tile there))
    (in_nodes (fields_of_tile tile) 0 tile.nodes p p n (omega arith) at))

pub node_of : (tiles : List Tile) (n : GraphNode) → Contains (file_graph tiles).nodes n → NodeAt tiles n
node_of tiles n there =
    let (t, (among, inside)) = of_flat (λ t. nodes_under t 0 t.nodes) (map fields_of_tile tiles) n (in_from_contains (file_graph tiles).nodes n there) in
    let (tile, (one, same)) = of_map fields_of_tile tiles t among in
    let (j, f, at, is) = of_nodes (fields_of_tile tile) 0 tile.nodes n (subst (λ t. IsIn (nodes_under t 0 t.nodes) n) (sym same) inside) in
    record { tile = tile; there = contains_from_in tiles tile one; place = 0 + j; node = f; at = ap (slice_get tile.nodes) {x = 0 + j} {y = j} (omega arith) ∙ at; is = is }
