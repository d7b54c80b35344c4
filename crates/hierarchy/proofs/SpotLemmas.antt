-- Spots of nodes, one more and all.
use Rattle.std.proofs.Common.{◌≡◌, ℕ, ◌+◌, ◌<◌, ◌≤◌, Bool, true, List, [], ◌∷◌, ◌++◌, length, map, take, get_or, refl, sym, ap, subst, ◌∙◌, cond, ltb}
use Rattle.std.specs.Prelude.{All, filter, nat_lt}
use Rattle.std.specs.List.{flat_map}
use Rattle.std.proofs.lemmas.List.{append-nil, append_assoc, map-append, take_all, take_more, length-map}
use Rattle.std.proofs.lemmas.List.Elements.{filter-append, All-push, All-nil}
use Rattle.work_tile.specs.WorkRows.{WorkNode, WorkRows}
use Rattle.hierarchy.specs.Lifted.{tile_over, is_on_level, lifted_edge, lifted_node}
use Rattle.hierarchy.specs.declared.spots.Spot.{Spot}
use Rattle.hierarchy.specs.Spots.{PlacedNode, placed_from, placed_nodes, no_node, no_rows, source_at, node_at, spot_at, placed_of, IsSpot, AddsSpots, AreSpots}

pub adds_none : (k : ℕ) (tiles : List WorkRows) (before : List Spot) → AddsSpots k tiles before before []
adds_none k tiles before = record { placed = sym (append-nil (map (placed_of k tiles) before)); there = λ h. h }

pub adds_both : (k : ℕ) (tiles : List WorkRows) (before between after : List Spot) (ps qs : List PlacedNode) → AddsSpots k tiles before between ps → AddsSpots k tiles between after qs → AddsSpots k tiles before after (ps ++ qs)
adds_both k tiles before between after ps qs one two = record {
  placed = two.placed ∙ (ap (λ l. l ++ qs) one.placed ∙ append_assoc (map (placed_of k tiles) before) ps qs);
  there = λ h. two.there (one.there h);
}

-- ---- one node

-- the test of the node is that of its edges
pub some_lifted : (k : ℕ) (n : WorkNode) → ltb 0 (length (lifted_node k n).edges) ≡ ltb 0 (length (filter (is_on_level k) n.edges))
some_lifted k n = ap (ltb 0) (length-map (filter (is_on_level k) n.edges) (lifted_edge k))

placed_one : (k tile : ℕ) (n : WorkNode) (b : Bool) → ltb 0 (length (filter (is_on_level k) n.edges)) ≡ b
    → placed_from k tile (n ∷ []) ≡ map (λ m. record { tile = tile_over k tile; node = m }) (cond b (lifted_node k n ∷ []) [])
placed_one k tile n b is = ap (λ t. map (λ m. record { tile = tile_over k tile; node = m }) (cond t (lifted_node k n ∷ []) [])) (some_lifted k n ∙ is)

pub node_gathered : (k : ℕ) (tiles : List WorkRows) (source node : ℕ) (before after : List Spot) → source < length tiles → node < length (source_at tiles source).nodes
    → ltb 0 (length (filter (is_on_level k) (node_at tiles source node).edges)) ≡ true → after ≡ before ++ spot_at k (source_at tiles source) source node ∷ []
    → AddsSpots k tiles before after (placed_from k (source_at tiles source).tile (node_at tiles source node ∷ []))
node_gathered k tiles source node before after inside there some put =
    let s : Spot = spot_at k (source_at tiles source) source node in
    record {
      placed =
          ap (map (placed_of k tiles)) put ∙ (map-append (placed_of k tiles) before (s ∷ [])
          ∙ ap (λ l. map (placed_of k tiles) before ++ l) (sym (placed_one k (source_at tiles source).tile (node_at tiles source node) true some)));
      there = λ all. subst (All (IsSpot tiles)) (sym put) (All-push (IsSpot tiles) before s all (record { source = inside; node = there; osm = refl }));
    }

-- ---- all nodes of a tile, and all tiles

pub placed_more : (k tile i : ℕ) (nodes : List WorkNode) (d : WorkNode) → i < length nodes
    → placed_from k tile (take (i + 1) nodes) ≡ placed_from k tile (take i nodes) ++ placed_from k tile (get_or nodes i d ∷ [])
placed_more k tile i nodes d inside =
    let f : WorkNode → PlacedNode = λ m. record { tile = tile_over k tile; node = m } in
    let test : WorkNode → Bool = λ n. nat_lt 0 (length n.edges) in
    let last : List WorkNode = get_or nodes i d ∷ [] in
    ap (λ ns. map f (filter test (map (lifted_node k) ns))) (take_more nodes i d inside)
    ∙ (ap (λ ns. map f (filter test ns)) (map-append (lifted_node k) (take i nodes) last)
    ∙ (ap (map f) (filter-append test (map (lifted_node k) (take i nodes)) (map (lifted_node k) last))
    ∙ map-append f (filter test (map (lifted_node k) (take i nodes))) (filter test (map (lifted_node k) last))))

pub node_added : (k : ℕ) (tiles : List WorkRows) (source node : ℕ) (before between after : List Spot) → node < length (source_at tiles source).nodes
    → AddsSpots k tiles before between (placed_from k (source_at tiles source).tile (take node (source_at tiles source).nodes))
    → AddsSpots k tiles between after (placed_from k (source_at tiles source).tile (node_at tiles source node ∷ []))
    → AddsSpots k tiles before after (placed_from k (source_at tiles source).tile (take (node + 1) (source_at tiles source).nodes))
node_added k tiles source node before between after inside one two =
    subst (AddsSpots k tiles before after) (sym (placed_more k (source_at tiles source).tile node (source_at tiles source).nodes no_node inside))
    (adds_both k tiles before between after (placed_from k (source_at tiles source).tile (take node (source_at tiles source).nodes)) (placed_from k (source_at tiles source).tile (node_at tiles source node ∷ [])) one two)

pub nodes_added : (k : ℕ) (tiles : List WorkRows) (source i : ℕ) (before after : List Spot) → length (source_at tiles source).nodes ≤ i
    → AddsSpots k tiles before after (placed_from k (source_at tiles source).tile (take i (source_at tiles source).nodes))
    → AddsSpots k tiles before after (placed_from k (source_at tiles source).tile (source_at tiles source).nodes)
nodes_added k tiles source i before after over = subst (λ ns. AddsSpots k tiles before after (placed_from k (source_at tiles source).tile ns)) (take_all i (source_at tiles source).nodes over)

flat_append : {A B : Type 0} (f : A → List B) (xs ys : List A) → flat_map f (xs ++ ys) ≡ flat_map f xs ++ flat_map f ys
flat_append f [] ys = refl
flat_append f (x ∷ xs) ys = ap (λ l. f x ++ l) (flat_append f xs ys) ∙ sym (append_assoc (f x) (flat_map f xs) (flat_map f ys))

pub tile_added : (k : ℕ) (tiles : List WorkRows) (source : ℕ) (between after : List Spot) → source < length tiles
    → AddsSpots k tiles [] between (placed_nodes k (take source tiles))
    → AddsSpots k tiles between after (placed_from k (source_at tiles source).tile (source_at tiles source).nodes)
    → AddsSpots k tiles [] after (placed_nodes k (take (source + 1) tiles))
tile_added k tiles source between after inside one two =
    let here : List PlacedNode = placed_from k (source_at tiles source).tile (source_at tiles source).nodes in
    let more : placed_nodes k (take (source + 1) tiles) ≡ placed_nodes k (take source tiles) ++ here =
    ap (placed_nodes k) (take_more tiles source no_rows inside) ∙ (flat_append (λ t. placed_from k t.tile t.nodes) (take source tiles) (source_at tiles source ∷ [])
    ∙ ap (λ l. placed_nodes k (take source tiles) ++ l) (append-nil here)) in
    subst (AddsSpots k tiles [] after) (sym more) (adds_both k tiles [] between after (placed_nodes k (take source tiles)) here one two)

pub all_gathered : (k : ℕ) (tiles : List WorkRows) (i : ℕ) (spots : List Spot) → length tiles ≤ i → AddsSpots k tiles [] spots (placed_nodes k (take i tiles)) → AreSpots k tiles spots
all_gathered k tiles i spots over added = record {
  placed = added.placed ∙ ap (placed_nodes k) (take_all i tiles over);
  there = added.there (All-nil (IsSpot tiles));
}
