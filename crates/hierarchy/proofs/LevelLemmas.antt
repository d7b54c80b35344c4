-- The tiles of a level are those of its nodes in order.
use Rattle.std.proofs.Common.{◌≡◌, ℕ, suc, ◌≤◌, Bool, true, false, ℤ, List, [], ◌∷◌, ◌++◌, length, map, refl, sym, ap, subst, ◌∙◌, arith, cond, inl, inr}
use Rattle.std.specs.Prelude.{⊤, AllPairs, IsPermutation, filter, int_lt, nat_lt, nat_eq}
use Rattle.std.specs.Int.{from_bool}
use Rattle.std.specs.Ordering.{int_eq}
use Rattle.std.specs.List.{flat_map}
use Rattle.std.proofs.lemmas.Bool.{both_ways, eqb-true}
use Rattle.std.proofs.lemmas.List.{map-append}
use Rattle.std.proofs.lemmas.List.Sums.{sum_by-append}
use Rattle.std.proofs.lemmas.List.Elements.{filter-append}
use Rattle.std.proofs.lemmas.List.Sorted.{IsPermutation-map, IsPermutation-sym, Contains-permutation, sum_by-IsPermutation}
use Rattle.std.proofs.lemmas.Simd.{map-map}
use Rattle.road_pieces.specs.Among.{Once}
use Rattle.road_pieces.proofs.Members.{IsIn, in_map, of_map, in_flat, of_flat, at_in, in_from_contains, contains_from_in}
use Rattle.road_walks.specs.Orders.{not_none, rising}
use Rattle.road_walks.proofs.Locals.{in_filter}
use Rattle.road_walks.proofs.Sorted.{of_filter, in_rising, of_rising, numbers_connected, below_self, below_on, one_sorted, rising_sorted}
use Rattle.work_tile.specs.WorkRows.{WorkNode, WorkRows}
use Rattle.hierarchy.specs.Lifted.{tile_over, lifted_node, lifted_nodes, tiles_under, lifted_tile, level_numbers, tiles_of_level}
use Rattle.hierarchy.specs.declared.spots.Spot.{Spot}
use Rattle.hierarchy.specs.Spots.{OwnNodes, PlacedNode, placed_from, placed_nodes, placed_of, IsSpot, AreSpots, nodes_under, tile_of_nodes, tiles_of_nodes}
use Rattle.hierarchy.proofs.RunLemmas.{map_in, filter_all, filter_none}
use Rattle.hierarchy.proofs.OwnOrder.{NeverFalls, ascends, times, times_cons, once_of_times, times_of_once, rising_is}

abbrev pub osm_of : WorkNode → ℤ
osm_of n = n.osm

abbrev placed_osm : PlacedNode → ℤ
placed_osm p = p.node.osm

-- of these nodes those where an edge of the level starts
abbrev starting : ℕ → List WorkNode → List WorkNode
starting k ms = filter (λ l. nat_lt 0 (length l.edges)) (map (lifted_node k) ms)

-- the nodes that lie in a tile
abbrev in_tile : ℕ → List PlacedNode → List PlacedNode
in_tile c ps = filter (λ q. nat_eq q.tile c) ps

-- ---- no id stands twice

module _ (k : ℕ) (n : ℤ) where
  abbrev place_at : ℕ → WorkNode → PlacedNode
  place_at tile m = record { tile = tile_over k tile; node = m }

  times_from : (tile : ℕ) (nodes : List WorkNode) → times placed_osm n (placed_from k tile nodes) ≤ times osm_of n nodes
  times_from tile [] = omega arith
  times_from tile (m ∷ ms) = by (nat_lt 0 (length (lifted_node k m).edges)) (times_from tile ms)
    where
      by : (b : Bool) → times placed_osm n (placed_from k tile ms) ≤ times osm_of n ms → times placed_osm n (map (place_at tile) (cond b (lifted_node k m ∷ starting k ms) (starting k ms))) ≤ times osm_of n (m ∷ ms)
      by true few = omega (arith, few, times_cons osm_of n m ms, times_cons placed_osm n (place_at tile (lifted_node k m)) (map (place_at tile) (starting k ms)))
      by false few = omega (arith, few, times_cons osm_of n m ms)

  times_placed : (tiles : List WorkRows) → times placed_osm n (placed_nodes k tiles) ≤ times osm_of n (flat_map (λ t. t.nodes) tiles)
  times_placed [] = omega arith
  times_placed (t ∷ ts) =
      omega (
        arith,
        times_from t.tile t.nodes,
        times_placed ts,
        sum_by-append (λ p. from_bool (int_eq (placed_osm p) n)) (placed_from k t.tile t.nodes) (placed_nodes k ts),
        sum_by-append (λ m. from_bool (int_eq (osm_of m) n)) t.nodes (flat_map (λ t. t.nodes) ts),
      )

  times_under : (c : ℕ) (ps : List PlacedNode) → times osm_of n (nodes_under ps c) ≤ times placed_osm n ps
  times_under c [] = omega arith
  times_under c (p ∷ ps) = by (nat_eq p.tile c) (times_under c ps)
    where
      by : (b : Bool) → times osm_of n (nodes_under ps c) ≤ times placed_osm n ps → times osm_of n (map (λ q. q.node) (cond b (p ∷ filter (λ q. nat_eq q.tile c) ps) (filter (λ q. nat_eq q.tile c) ps))) ≤ times placed_osm n (p ∷ ps)
      by true few = omega (arith, few, times_cons placed_osm n p ps, times_cons osm_of n p.node (nodes_under ps c))
      by false few = omega (arith, few, times_cons placed_osm n p ps)

-- ---- the nodes in a tile, and the numbers of the tiles

itself : (ms : List WorkNode) → map (λ m. m) ms ≡ ms
itself [] = refl
itself (m ∷ ms) = ap (λ l. m ∷ l) (itself ms)

module _ (k : ℕ) where
  under_is : (c : ℕ) (tiles : List WorkRows) → nodes_under (placed_nodes k tiles) c ≡ flat_map (lifted_nodes k) (tiles_under k c tiles)
  under_is c [] = refl
  under_is c (t ∷ ts) =
      ap (map (λ p. p.node)) (filter-append (λ p. nat_eq p.tile c) (placed_from k t.tile t.nodes) (placed_nodes k ts))
      ∙ (map-append (λ p. p.node) (filter (λ p. nat_eq p.tile c) (placed_from k t.tile t.nodes)) (filter (λ p. nat_eq p.tile c) (placed_nodes k ts))
      ∙ by (nat_eq (tile_over k t.tile) c) refl (under_is c ts))
    where
      tile_is : (p : PlacedNode) → IsIn (placed_from k t.tile t.nodes) p → p.tile ≡ tile_over k t.tile
      tile_is p h = let (m, (is, e)) = of_map (λ m. record { tile = tile_over k t.tile; node = m }) (lifted_nodes k t) p h in sym (ap (λ q. q.tile) e)

      by : (b : Bool) → nat_eq (tile_over k t.tile) c ≡ b → nodes_under (placed_nodes k ts) c ≡ flat_map (lifted_nodes k) (tiles_under k c ts)
          → nodes_under (placed_from k t.tile t.nodes) c ++ nodes_under (placed_nodes k ts) c ≡ flat_map (lifted_nodes k) (cond b (t ∷ tiles_under k c ts) (tiles_under k c ts))
      by true e rest =
          ap (λ l. map (λ p. p.node) l ++ nodes_under (placed_nodes k ts) c) (filter_all (λ p. nat_eq p.tile c) (placed_from k t.tile t.nodes) (λ p h. ap (λ m. nat_eq m c) (tile_is p h) ∙ e))
          ∙ (ap (λ l. l ++ nodes_under (placed_nodes k ts) c) (map-map (λ p. p.node) (λ m. record { tile = tile_over k t.tile; node = m }) (lifted_nodes k t) ∙ itself (lifted_nodes k t))
          ∙ ap (λ l. lifted_nodes k t ++ l) rest)
      by false e rest =
          ap (λ l. map (λ p. p.node) l ++ nodes_under (placed_nodes k ts) c) (filter_none (λ p. nat_eq p.tile c) (placed_from k t.tile t.nodes) (λ p h. ap (λ m. nat_eq m c) (tile_is p h) ∙ e))
          ∙ rest

  some_in : {E : Type 0} (es : List E) (e : E) → IsIn es e → not_none es ≡ true
  some_in [] e h = absurd h
  some_in (d ∷ es) e h = refl

  of_some : {E : Type 0} (es : List E) → not_none es ≡ true → (e : E) × IsIn es e
  of_some [] h = absurd (both_ways false refl h)
  of_some (e ∷ es) h = (e, inl refl)

  abbrev numbers : List WorkRows → List ℕ
  numbers tiles = map (λ t. tile_over k t.tile) (filter (λ t. not_none (lifted_nodes k t)) tiles)

  number_from : (tiles : List WorkRows) (p : PlacedNode) → IsIn (placed_nodes k tiles) p → IsIn (numbers tiles) p.tile
  number_from tiles p h =
      let (t, (is, there)) = of_flat (λ t. placed_from k t.tile t.nodes) tiles p h in
      let (m, (node, e)) = of_map (λ m. record { tile = tile_over k t.tile; node = m }) (lifted_nodes k t) p there in
      subst (IsIn (numbers tiles)) (ap (λ q. q.tile) e)
      (in_map (λ t. tile_over k t.tile) (filter (λ t. not_none (lifted_nodes k t)) tiles) t (in_filter (λ t. not_none (lifted_nodes k t)) tiles t is (some_in (lifted_nodes k t) m node)))

  number_to : (tiles : List WorkRows) (c : ℕ) → IsIn (numbers tiles) c → (p : PlacedNode) × (IsIn (placed_nodes k tiles) p × (p.tile ≡ c))
  number_to tiles c h =
      let (t, (there, e)) = of_map (λ t. tile_over k t.tile) (filter (λ t. not_none (lifted_nodes k t)) tiles) c h in
      let (is, some) = of_filter (λ t. not_none (lifted_nodes k t)) tiles t there in
      let (m, node) = of_some (lifted_nodes k t) some in
      (record { tile = tile_over k t.tile; node = m }, (in_flat (λ t. placed_from k t.tile t.nodes) tiles t (record { tile = tile_over k t.tile; node = m }) is (in_map (λ m. record { tile = tile_over k t.tile; node = m }) (lifted_nodes k t) m node), e))

-- no id stands twice among the nodes of a tile of the level
pub lifted_once : (k : ℕ) (tiles : List WorkRows) → OwnNodes tiles → (c : ℕ) → Once (map osm_of (flat_map (lifted_nodes k) (tiles_under k c tiles)))
lifted_once k tiles own c =
    subst (λ l. Once (map osm_of l)) (under_is k c tiles)
    (once_of_times osm_of (nodes_under (placed_nodes k tiles) c)
    (λ n. omega (arith, times_under k n c (placed_nodes k tiles), times_placed k n tiles, times_of_once osm_of (flat_map (λ t. t.nodes) tiles) own.once n)))

-- ---- nodes in order

-- nodes of one tile are in order of OSM id
abbrev InOrder : List PlacedNode → Type 0
InOrder [] = ⊤
InOrder (p ∷ ps) = ((q : PlacedNode) → IsIn ps q → p.tile ≡ q.tile → int_lt q.node.osm p.node.osm ≡ false) × InOrder ps

never_fall : (c : ℕ) (ps : List PlacedNode) → InOrder ps → NeverFalls (map osm_of (nodes_under ps c))
never_fall c [] h = tt
never_fall c (p ∷ ps) h = by (nat_eq p.tile c) refl (never_fall c ps h.1)
  where
    by : (b : Bool) → nat_eq p.tile c ≡ b → NeverFalls (map osm_of (nodes_under ps c)) → NeverFalls (map osm_of (map (λ q. q.node) (cond b (p ∷ in_tile c ps) (in_tile c ps))))
    by true e falls = (
      λ m there. let (l, (node, is)) = of_map osm_of (map (λ q. q.node) (in_tile c ps)) m there in
          let (q, (inside, same)) = of_map (λ q. q.node) (in_tile c ps) l node in
          let (behind, here) = of_filter (λ q. nat_eq q.tile c) ps q inside in
          subst (λ n. int_lt n p.node.osm ≡ false) (ap osm_of same ∙ is) (h.0 q behind (eqb-true p.tile c e ∙ sym (eqb-true q.tile c here))),
      falls,
    )
    by false e falls = falls

-- one spot isn't after another
pub record IsNotAfter (s r : Spot) : Type 0 where
  pub tiles : s.tile ≤ r.tile
  pub nodes : s.tile ≡ r.tile → int_lt r.osm s.osm ≡ false

in_order : (k : ℕ) (tiles : List WorkRows) (spots : List Spot) → AllPairs IsNotAfter spots → ((s : Spot) → IsIn spots s → IsSpot tiles s) → InOrder (map (placed_of k tiles) spots)
in_order k tiles [] pairs are = tt
in_order k tiles (s ∷ ss) pairs are = (
  λ q h same. let (r, (is, e)) = of_map (placed_of k tiles) ss q h in
      let (j, (inside, at)) = at_in ss r is in
      let pair : IsNotAfter s r = subst (IsNotAfter s) (at s) (pairs 0 (suc j) s (omega arith) (omega (arith, inside))) in
      let below : int_lt r.osm s.osm ≡ false = pair.nodes (same ∙ sym (ap (λ p. p.tile) e)) in
      let theirs : q.node.osm ≡ r.osm = sym (ap placed_osm e) ∙ (are r (inr is)).osm in
      let mine : (placed_of k tiles s).node.osm ≡ s.osm = (are s (inl refl)).osm in
      ap (λ n. int_lt n (placed_of k tiles s).node.osm) theirs ∙ (ap (int_lt r.osm) mine ∙ below),
  in_order k tiles ss (λ i j d a b. pairs (suc i) (suc j) d (omega (arith, a)) (omega (arith, b))) (λ r h. are r (inr h)),
)

-- ---- the tiles of the level

module _ (k : ℕ) (tiles : List WorkRows) (own : OwnNodes tiles) (found spots : List Spot) (are : AreSpots k tiles found) (moved : IsPermutation found spots) (pairs : AllPairs IsNotAfter spots) where
  abbrev told : List PlacedNode
  told = map (placed_of k tiles) spots

  told_moved : IsPermutation (placed_nodes k tiles) told
  told_moved = subst (λ l. IsPermutation l told) are.placed (IsPermutation-map (placed_of k tiles) found spots moved)

  to_told : (p : PlacedNode) → IsIn (placed_nodes k tiles) p → IsIn told p
  to_told p h = in_from_contains told p (Contains-permutation (placed_nodes k tiles) told p told_moved (contains_from_in (placed_nodes k tiles) p h))

  from_told : (p : PlacedNode) → IsIn told p → IsIn (placed_nodes k tiles) p
  from_told p h = in_from_contains (placed_nodes k tiles) p (Contains-permutation told (placed_nodes k tiles) p (IsPermutation-sym (placed_nodes k tiles) told told_moved) (contains_from_in told p h))

  few : (n : ℤ) → times placed_osm n (placed_nodes k tiles) ≤ 1
  few n = omega (arith, times_placed k n tiles, times_of_once osm_of (flat_map (λ t. t.nodes) tiles) own.once n)

  few_told : (n : ℤ) → times placed_osm n told ≤ 1
  few_told n = omega (arith, few n, sum_by-IsPermutation (λ p. from_bool (int_eq (placed_osm p) n)) (placed_nodes k tiles) told told_moved)

  spots_are : (s : Spot) → IsIn spots s → IsSpot tiles s
  spots_are s h =
      let (j, inside, at) = Contains-permutation spots found s (IsPermutation-sym found spots moved) (contains_from_in spots s h) in
      subst (IsSpot tiles) at (are.there j s inside)

  under_told : (c : ℕ) → nodes_under told c ≡ (lifted_tile tiles k c).nodes
  under_told c =
      rising_is osm_of (nodes_under told c) (nodes_under (placed_nodes k tiles) c)
      (once_of_times osm_of (nodes_under (placed_nodes k tiles) c) (λ n. omega (arith, times_under k n c (placed_nodes k tiles), few n)))
      (ascends (map osm_of (nodes_under told c)) (never_fall c told (in_order k tiles spots pairs spots_are))
      (once_of_times osm_of (nodes_under told c) (λ n. omega (arith, times_under k n c told, few_told n))))
      (λ m h. moved_under told (placed_nodes k tiles) from_told m h)
      (λ m h. moved_under (placed_nodes k tiles) told to_told m h)
      ∙ ap (rising (λ m n. int_lt m.osm n.osm)) (under_is k c tiles)
    where
      moved_under : (ps qs : List PlacedNode) → ((p : PlacedNode) → IsIn ps p → IsIn qs p) → (m : WorkNode) → IsIn (nodes_under ps c) m → IsIn (nodes_under qs c) m
      moved_under ps qs to m h =
          let (p, (there, e)) = of_map (λ p. p.node) (filter (λ p. nat_eq p.tile c) ps) m h in
          let (is, here) = of_filter (λ p. nat_eq p.tile c) ps p there in
          subst (IsIn (nodes_under qs c)) e (in_map (λ p. p.node) (filter (λ p. nat_eq p.tile c) qs) p (in_filter (λ p. nat_eq p.tile c) qs p (to p is) here))

  numbers_told : rising nat_lt (map (λ p. p.tile) told) ≡ level_numbers tiles k
  numbers_told =
      one_sorted nat_lt numbers_connected below_self below_on (rising nat_lt (map (λ p. p.tile) told)) (level_numbers tiles k)
      (rising_sorted nat_lt numbers_connected below_self below_on (map (λ p. p.tile) told)) (rising_sorted nat_lt numbers_connected below_self below_on (numbers k tiles))
      (λ c h. let (p, (is, e)) = of_map (λ p. p.tile) told c (of_rising nat_lt numbers_connected (map (λ p. p.tile) told) c h) in
      in_rising nat_lt numbers_connected (numbers k tiles) c (subst (IsIn (numbers k tiles)) e (number_from k tiles p (from_told p is))))
      (λ c h. let (p, (is, e)) = number_to k tiles c (of_rising nat_lt numbers_connected (numbers k tiles) c h) in
      in_rising nat_lt numbers_connected (map (λ p. p.tile) told) c (subst (IsIn (map (λ p. p.tile) told)) e (in_map (λ p. p.tile) told p (to_told p is))))

  pub level_told : tiles_of_nodes k told ≡ tiles_of_level tiles k
  unfolding tiles_of_nodes tiles_of_level
  level_told =
      ap (map (tile_of_nodes k told)) numbers_told
      ∙ map_in (tile_of_nodes k told) (lifted_tile tiles k) (level_numbers tiles k) (λ c h. ap (λ ns. record { level = k; tile = c; nodes = ns }) (under_told c))
