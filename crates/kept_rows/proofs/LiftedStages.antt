-- Lifting the rows of a stage of level 2 gives, on each level, the rows of the stage of that level's pieces.
use Rattle.std.proofs.Common.{◌≡◌, ℕ, ◌≤◌, refl, sym, ◌∙◌, ap, subst, List, [], ◌∷◌, ◌++◌, map, length, ℤ, Bool, true, false, cond, inl, inr}
use Rattle.std.specs.Prelude.{nat_eq, nat_lt, int_lt}
use Rattle.std.specs.List.{filter, flat_map}
use Rattle.std.specs.Ordering.{int_eq}
use Rattle.std.specs.Cmp.{signed_Decides}
use Rattle.std.proofs.lemmas.Bool.{both_ways, eqb-true, eq-eqb}
use Rattle.std.proofs.lemmas.List.{map-append}
use Rattle.std.proofs.lemmas.Simd.{map-map}
use Rattle.osm_model.specs.declared.extract.Extract.{Extract}
use Rattle.road_pieces.specs.Among.{Once}
use Rattle.road_pieces.specs.DirectedPiece.{DirectedPiece}
use Rattle.road_pieces.specs.Pieces.{piece_start, piece_end}
use Rattle.road_pieces.proofs.Members.{IsIn, in_map, of_map, in_flat, of_flat, in_from_among, among_from_in}
use Rattle.road_walks.specs.Orders.{not_none}
use Rattle.road_walks.specs.Stages.{nodes_by, stage_tiles, edges_by, stage_node, stage_tile, stage}
use Rattle.road_walks.proofs.Locals.{in_filter}
use Rattle.road_walks.proofs.Sorted.{of_filter, in_rising, of_rising, numbers_connected, nodes_connected, node_never, node_on, below_self, below_on, one_sorted, rising_sorted, rising_once, once_append}
use Rattle.folder_spec.specs.Chains.{piece_level}
use Rattle.work_tile.specs.WorkRows.{WorkNode, WorkRows}
use Rattle.edge_builder.specs.ExtractRows.{node_tile, edge_of_extract, node_of_extract, rows_of_stage}
use Rattle.hierarchy.specs.Lifted.{tile_over, is_on_level, lifted_edge, lifted_node, lifted_nodes, tiles_under, lifted_tile, level_numbers, tiles_of_level}
use Rattle.hierarchy.specs.Spots.{OwnNodes}
use Rattle.hierarchy.proofs.OwnOrder.{Ascends, rising_is}
use Rattle.hierarchy.proofs.LevelLemmas.{osm_of, lifted_once}
use Rattle.kept_rows.proofs.ListFacts.{filter_values}
use Rattle.kept_rows.proofs.KeptStages.{some_values}
use Rattle.kept_rows.proofs.LevelPlaces.{over_node}

-- ---- lists

-- two ways to values that agree on the elements
map_same : {A B : Type 0} (f g : A → B) (es : List A) → ((e : A) → f e ≡ g e) → map f es ≡ map g es
map_same f g [] same = refl
map_same f g (e ∷ es) same = λ i. same e i ∷ map_same f g es same i

map_inside : {A B : Type 0} (f g : A → B) (es : List A) → ((e : A) → IsIn es e → f e ≡ g e) → map f es ≡ map g es
map_inside f g [] same = refl
map_inside f g (e ∷ es) same = λ i. same e (inl refl) i ∷ map_inside f g es (λ d h. same d (inr h)) i

filters_change : {E : Type 0} (f g : E → Bool) (es : List E) → filter f (filter g es) ≡ filter g (filter f es)
filters_change f g [] = refl
filters_change f g (e ∷ es) = by (f e) (g e) refl refl (filters_change f g es)
  where
    by : (a b : Bool) → f e ≡ a → g e ≡ b → filter f (filter g es) ≡ filter g (filter f es) → filter f (cond b (e ∷ filter g es) (filter g es)) ≡ filter g (cond a (e ∷ filter f es) (filter f es))
    by true true p q rest = ap (λ t. cond t (e ∷ filter f (filter g es)) (filter f (filter g es))) p ∙ (ap (λ l. e ∷ l) rest ∙ ap (λ t. cond t (e ∷ filter g (filter f es)) (filter g (filter f es))) (sym q))
    by true false p q rest = rest ∙ ap (λ t. cond t (e ∷ filter g (filter f es)) (filter g (filter f es))) (sym q)
    by false true p q rest = ap (λ t. cond t (e ∷ filter f (filter g es)) (filter f (filter g es))) p ∙ rest
    by false false p q rest = rest

is_some : {E : Type 0} (es : List E) (e : E) → IsIn es e → not_none es ≡ true
is_some [] e h = absurd h
is_some (d ∷ es) e h = refl

one_of : {E : Type 0} (es : List E) → not_none es ≡ true → (e : E) × IsIn es e
one_of [] h = absurd (both_ways false refl h)
one_of (e ∷ es) h = (e, inl refl)

-- lists that share nothing, each without repetition
once_flat : (f : ℕ → List ℤ) (tag : ℤ → ℕ) → ((c : ℕ) → Once (f c)) → ((c : ℕ) (n : ℤ) → IsIn (f c) n → tag n ≡ c) → (cs : List ℕ) → Once cs → Once (flat_map f cs)
once_flat f tag each tagged [] once = tt
once_flat f tag each tagged (c ∷ cs) once =
    once_append (f c) (flat_map f cs) (each c) (once_flat f tag each tagged cs once.1)
    (λ n h k. let (d, (is, there)) = of_flat f cs n (in_from_among (flat_map f cs) n k) in
    once.0 (among_from_in cs c (subst (IsIn cs) (sym (tagged d n there) ∙ tagged c n (in_from_among (f c) n h)) is)))

-- ---- nodes and tiles of a stage

module _ (x : Extract) (es : List DirectedPiece) where
  abbrev pub nodes_of : ℕ → ℕ → List ℤ
  nodes_of k c = nodes_by x (node_tile x) es k c

  of_nodes : (k c : ℕ) (n : ℤ) → IsIn (nodes_of k c) n → (p : DirectedPiece) × (IsIn es p × ((piece_start x p ≡ n) × (node_tile x k n ≡ c)))
  of_nodes k c n h =
      let (there, tile) = of_filter (λ m. nat_eq (node_tile x k m) c) (map (piece_start x) es) n (of_rising int_lt nodes_connected (filter (λ m. nat_eq (node_tile x k m) c) (map (piece_start x) es)) n h) in
      let (p, (is, e)) = of_map (piece_start x) es n there in
      (p, (is, (e, eqb-true (node_tile x k n) c tile)))

  in_nodes : (k c : ℕ) (n : ℤ) (p : DirectedPiece) → IsIn es p → piece_start x p ≡ n → node_tile x k n ≡ c → IsIn (nodes_of k c) n
  in_nodes k c n p is e tile =
      in_rising int_lt nodes_connected (filter (λ m. nat_eq (node_tile x k m) c) (map (piece_start x) es)) n
      (in_filter (λ m. nat_eq (node_tile x k m) c) (map (piece_start x) es) n (subst (IsIn (map (piece_start x) es)) e (in_map (piece_start x) es p is)) (eq-eqb (node_tile x k n) c tile))

  in_tiles : (k : ℕ) (p : DirectedPiece) → IsIn es p → IsIn (stage_tiles x (node_tile x) es k) (node_tile x k (piece_start x p))
  in_tiles k p is = in_rising nat_lt numbers_connected (map (λ q. node_tile x k (piece_start x q)) es) (node_tile x k (piece_start x p)) (in_map (λ q. node_tile x k (piece_start x q)) es p is)

  of_tiles : (k c : ℕ) → IsIn (stage_tiles x (node_tile x) es k) c → (p : DirectedPiece) × (IsIn es p × (node_tile x k (piece_start x p) ≡ c))
  of_tiles k c h = of_map (λ q. node_tile x k (piece_start x q)) es c (of_rising nat_lt numbers_connected (map (λ q. node_tile x k (piece_start x q)) es) c h)

  at_start : (n : ℤ) (p : DirectedPiece) → IsIn es p → piece_start x p ≡ n → IsIn (edges_by x (node_tile x) es n) p
  at_start n p is e = in_filter (λ q. int_eq (piece_start x q) n) es p is ((signed_Decides (piece_start x p) n).1 e)

  of_start : (n : ℤ) (p : DirectedPiece) → IsIn (edges_by x (node_tile x) es n) p → IsIn es p × (piece_start x p ≡ n)
  of_start n p h = let (is, e) = of_filter (λ q. int_eq (piece_start x q) n) es p h in (is, (signed_Decides (piece_start x p) n).0 e)

-- ---- one node

module _ (x : Extract) (k : ℕ) (low : k ≤ 2) where
  abbrev on : DirectedPiece → Bool
  on p = nat_eq (piece_level x p) k

  edge_lifts : (p : DirectedPiece) → lifted_edge k (edge_of_extract x 2 p) ≡ edge_of_extract x k p
  edge_lifts p = ap (λ t. record (edge_of_extract x k p) { end_tile = t }) (over_node x k (piece_end x p) low)

  edges_lift : (ps : List DirectedPiece) → map (lifted_edge k) (filter (is_on_level k) (map (edge_of_extract x 2) ps)) ≡ map (edge_of_extract x k) (filter on ps)
  edges_lift ps =
      ap (map (lifted_edge k)) (filter_values (edge_of_extract x 2) (is_on_level k) on (λ p. refl) ps)
      ∙ (map-map (lifted_edge k) (edge_of_extract x 2) (filter on ps) ∙ map_same (λ p. lifted_edge k (edge_of_extract x 2 p)) (edge_of_extract x k) (filter on ps) edge_lifts)

  node_lifts : (n : ℤ) (ps : List DirectedPiece) → lifted_node k (node_of_extract x 2 n ps) ≡ node_of_extract x k n (filter on ps)
  node_lifts n ps = ap (λ edges. record (node_of_extract x k n []) { edges = edges }) (edges_lift ps)

-- ---- a stage

module _ (x : Extract) (es : List DirectedPiece) where
  -- the rows of a tile of level 2, and all tiles
  abbrev rows_at : ℕ → WorkRows
  rows_at c = rows_of_stage x (stage_tile x (node_tile x) es 2 c)

  abbrev all_rows : List WorkRows
  all_rows = map rows_at (stage_tiles x (node_tile x) es 2)

  ids_back : (ns : List ℤ) → map osm_of (map (λ n. node_of_extract x 2 n.osm n.edges) (map (stage_node x (node_tile x) es) ns)) ≡ ns
  ids_back [] = refl
  ids_back (n ∷ ns) = ap (λ l. n ∷ l) (ids_back ns)

  all_ids : (cs : List ℕ) → map osm_of (flat_map (λ t. t.nodes) (map rows_at cs)) ≡ flat_map (nodes_of x es 2) cs
  all_ids [] = refl
  all_ids (c ∷ cs) =
      map-append osm_of (rows_at c).nodes (flat_map (λ t. t.nodes) (map rows_at cs)) ∙ (λ i. ids_back (nodes_of x es 2 c) i ++ all_ids cs i)

  pub own_nodes : OwnNodes all_rows
  own_nodes = record {
    once =
        subst Once (sym (all_ids (stage_tiles x (node_tile x) es 2)))
        (once_flat (nodes_of x es 2) (node_tile x 2)
        (λ c. rising_once int_lt nodes_connected node_never node_on (filter (λ n. nat_eq (node_tile x 2 n) c) (map (piece_start x) es)))
        (λ c n h. (of_nodes x es 2 c n h).1.1.1)
        (stage_tiles x (node_tile x) es 2) (rising_once nat_lt numbers_connected below_self below_on (map (λ p. node_tile x 2 (piece_start x p)) es)));
  }

  module _ (k : ℕ) (low : k ≤ 2) where
    -- the pieces of the level, and the node of a junction
    abbrev pieces : List DirectedPiece
    pieces = filter (λ p. nat_eq (piece_level x p) k) es

    abbrev node_on_level : ℤ → WorkNode
    node_on_level n = node_of_extract x k n (edges_by x (node_tile x) pieces n)

    node_is : (n : ℤ) → lifted_node k (node_of_extract x 2 n (edges_by x (node_tile x) es n)) ≡ node_on_level n
    node_is n =
        node_lifts x k low n (edges_by x (node_tile x) es n)
        ∙ ap (node_of_extract x k n) (filters_change (λ p. nat_eq (piece_level x p) k) (λ p. int_eq (piece_start x p) n) es)

    nodes_are : (c : ℕ) → lifted_nodes k (rows_at c) ≡ map node_on_level (filter (λ n. not_none (edges_by x (node_tile x) pieces n)) (nodes_of x es 2 c))
    nodes_are c =
        ap (filter (λ n. nat_lt 0 (length n.edges)))
        (ap (map (lifted_node k)) (map-map (λ n. node_of_extract x 2 n.osm n.edges) (stage_node x (node_tile x) es) (nodes_of x es 2 c))
        ∙ (map-map (lifted_node k) (λ n. node_of_extract x 2 n (edges_by x (node_tile x) es n)) (nodes_of x es 2 c)
        ∙ map_same (λ n. lifted_node k (node_of_extract x 2 n (edges_by x (node_tile x) es n))) node_on_level (nodes_of x es 2 c) node_is))
        ∙ filter_values node_on_level (λ n. nat_lt 0 (length n.edges)) (λ n. not_none (edges_by x (node_tile x) pieces n)) (λ n. some_values (edge_of_extract x k) (edges_by x (node_tile x) pieces n)) (nodes_of x es 2 c)

    -- a piece of the level gives a node of the tile where it starts, and each node has one
    in_lifted : (p : DirectedPiece) → IsIn pieces p → IsIn (lifted_nodes k (rows_at (node_tile x 2 (piece_start x p)))) (node_on_level (piece_start x p))
    in_lifted p h =
        let n : ℤ = piece_start x p in
        let c : ℕ = node_tile x 2 n in
        subst (λ l. IsIn l (node_on_level n)) (sym (nodes_are c))
        (in_map node_on_level (filter (λ m. not_none (edges_by x (node_tile x) pieces m)) (nodes_of x es 2 c)) n
        (in_filter (λ m. not_none (edges_by x (node_tile x) pieces m)) (nodes_of x es 2 c) n
        (in_nodes x es 2 c n p ((of_filter (λ q. nat_eq (piece_level x q) k) es p h).0) refl refl)
        (is_some (edges_by x (node_tile x) pieces n) p (at_start x pieces n p h refl))))

    of_lifted : (c : ℕ) (m : WorkNode) → IsIn (lifted_nodes k (rows_at c)) m → (p : DirectedPiece) × (IsIn pieces p × ((node_on_level (piece_start x p) ≡ m) × (node_tile x 2 (piece_start x p) ≡ c)))
    of_lifted c m h =
        let (n, (there, e)) = of_map node_on_level (filter (λ l. not_none (edges_by x (node_tile x) pieces l)) (nodes_of x es 2 c)) m (subst (λ l. IsIn l m) (nodes_are c) h) in
        let (is, some) = of_filter (λ l. not_none (edges_by x (node_tile x) pieces l)) (nodes_of x es 2 c) n there in
        let (p, at) = one_of (edges_by x (node_tile x) pieces n) some in
        let (inside, starts) = of_start x pieces n p at in
        (p, (inside, (ap node_on_level starts ∙ e, ap (node_tile x 2) starts ∙ (of_nodes x es 2 c n is).1.1.1)))

    numbers_are : level_numbers all_rows k ≡ stage_tiles x (node_tile x) pieces k
    numbers_are =
        one_sorted nat_lt numbers_connected below_self below_on (level_numbers all_rows k) (stage_tiles x (node_tile x) pieces k)
        (rising_sorted nat_lt numbers_connected below_self below_on (map (λ t. tile_over k t.tile) (filter (λ t. not_none (lifted_nodes k t)) all_rows)))
        (rising_sorted nat_lt numbers_connected below_self below_on (map (λ p. node_tile x k (piece_start x p)) pieces))
        (λ d h. let (t, (there, e)) = of_map (λ t. tile_over k t.tile) (filter (λ t. not_none (lifted_nodes k t)) all_rows) d (of_rising nat_lt numbers_connected (map (λ t. tile_over k t.tile) (filter (λ t. not_none (lifted_nodes k t)) all_rows)) d h) in
        let (is, some) = of_filter (λ t. not_none (lifted_nodes k t)) all_rows t there in
        let (c, (tile, same)) = of_map rows_at (stage_tiles x (node_tile x) es 2) t is in
        let (m, node) = one_of (lifted_nodes k t) some in
        let (p, (inside, (which, at))) = of_lifted c m (subst (λ r. IsIn (lifted_nodes k r) m) (sym same) node) in
        subst (IsIn (stage_tiles x (node_tile x) pieces k)) (sym (over_node x k (piece_start x p) low) ∙ (ap (tile_over k) at ∙ (ap (λ r. tile_over k r.tile) same ∙ e))) (in_tiles x pieces k p inside))
        (λ d h. let (p, (inside, at)) = of_tiles x pieces k d h in
        let c : ℕ = node_tile x 2 (piece_start x p) in
        in_rising nat_lt numbers_connected (map (λ t. tile_over k t.tile) (filter (λ t. not_none (lifted_nodes k t)) all_rows)) d
        (subst (IsIn (map (λ t. tile_over k t.tile) (filter (λ t. not_none (lifted_nodes k t)) all_rows))) (over_node x k (piece_start x p) low ∙ at)
        (in_map (λ t. tile_over k t.tile) (filter (λ t. not_none (lifted_nodes k t)) all_rows) (rows_at c)
        (in_filter (λ t. not_none (lifted_nodes k t)) all_rows (rows_at c) (in_map rows_at (stage_tiles x (node_tile x) es 2) c (in_tiles x es 2 p ((of_filter (λ q. nat_eq (piece_level x q) k) es p inside).0)))
        (is_some (lifted_nodes k (rows_at c)) (node_on_level (piece_start x p)) (in_lifted p inside))))))

    -- the nodes of a tile of the level
    ids_on : (ns : List ℤ) → map osm_of (map node_on_level ns) ≡ ns
    ids_on [] = refl
    ids_on (n ∷ ns) = ap (λ l. n ∷ l) (ids_on ns)

    nodes_on : (d : ℕ) → map node_on_level (nodes_of x pieces k d) ≡ (lifted_tile all_rows k d).nodes
    nodes_on d =
        rising_is osm_of (map node_on_level (nodes_of x pieces k d)) (flat_map (lifted_nodes k) (tiles_under k d all_rows)) (lifted_once k all_rows own_nodes d)
        (subst Ascends (sym (ids_on (nodes_of x pieces k d))) (rising_sorted int_lt nodes_connected node_never node_on (filter (λ n. nat_eq (node_tile x k n) d) (map (piece_start x) pieces))))
        (λ m h. let (n, (is, e)) = of_map node_on_level (nodes_of x pieces k d) m h in
        let (p, (inside, (starts, tile))) = of_nodes x pieces k d n is in
        let c : ℕ = node_tile x 2 (piece_start x p) in
        in_flat (lifted_nodes k) (tiles_under k d all_rows) (rows_at c) m
        (in_filter (λ t. nat_eq (tile_over k t.tile) d) all_rows (rows_at c) (in_map rows_at (stage_tiles x (node_tile x) es 2) c (in_tiles x es 2 p ((of_filter (λ q. nat_eq (piece_level x q) k) es p inside).0)))
        (eq-eqb (tile_over k c) d (over_node x k (piece_start x p) low ∙ (ap (node_tile x k) starts ∙ tile))))
        (subst (IsIn (lifted_nodes k (rows_at c))) (ap node_on_level starts ∙ e) (in_lifted p inside)))
        (λ m h. let (t, (there, node)) = of_flat (lifted_nodes k) (tiles_under k d all_rows) m h in
        let (is, under) = of_filter (λ t. nat_eq (tile_over k t.tile) d) all_rows t there in
        let (c, (tile, same)) = of_map rows_at (stage_tiles x (node_tile x) es 2) t is in
        let (p, (inside, (which, at))) = of_lifted c m (subst (λ r. IsIn (lifted_nodes k r) m) (sym same) node) in
        subst (IsIn (map node_on_level (nodes_of x pieces k d))) which
        (in_map node_on_level (nodes_of x pieces k d) (piece_start x p)
        (in_nodes x pieces k d (piece_start x p) p inside refl
        (sym (over_node x k (piece_start x p) low) ∙ (ap (tile_over k) at ∙ (ap (λ r. tile_over k r.tile) same ∙ eqb-true (tile_over k t.tile) d under))))))

    level_lifts : tiles_of_level all_rows k ≡ map (rows_of_stage x) (stage x (node_tile x) pieces k)
    unfolding tiles_of_level
    level_lifts =
        map_same (lifted_tile all_rows k) (λ d. rows_of_stage x (stage_tile x (node_tile x) pieces k d)) (level_numbers all_rows k)
        (λ d. ap (λ ns. record { level = k; tile = d; nodes = ns }) (sym (nodes_on d) ∙ sym (map-map (λ n. node_of_extract x k n.osm n.edges) (stage_node x (node_tile x) pieces) (nodes_of x pieces k d))))
        ∙ (ap (map (λ d. rows_of_stage x (stage_tile x (node_tile x) pieces k d))) numbers_are
        ∙ sym (map-map (rows_of_stage x) (stage_tile x (node_tile x) pieces k) (stage_tiles x (node_tile x) pieces k)))

  -- the rows of the stage as they are written
  abbrev stage_rows : List WorkRows
  stage_rows = map (rows_of_stage x) (stage x (node_tile x) es 2)

  as_rows : stage_rows ≡ all_rows
  as_rows = map-map (rows_of_stage x) (stage_tile x (node_tile x) es 2) (stage_tiles x (node_tile x) es 2)

  pub stage_own : OwnNodes stage_rows
  stage_own = subst OwnNodes (sym as_rows) own_nodes

  pub stage_lifts : (k : ℕ) → k ≤ 2 → tiles_of_level stage_rows k ≡ map (rows_of_stage x) (stage x (node_tile x) (filter (λ p. nat_eq (piece_level x p) k) es) k)
  stage_lifts k low = ap (λ ts. tiles_of_level ts k) as_rows ∙ level_lifts k low
