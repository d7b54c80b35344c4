-- The tiles of nodes in order: those at the front with one tile, and the others.
use Rattle.std.proofs.Common.{◌≡◌, ℕ, zero, suc, ◌+◌, ◌-◌, ◌<◌, ◌≤◌, ◌≢◌, Bool, true, false, List, [], ◌∷◌, ◌++◌, length, map, take, drop, get_or, refl, sym, ap, subst, ◌∙◌, arith, cond, inl, inr, eq-eqb}
use Rattle.std.specs.Prelude.{filter, nat_lt, nat_eq}
use Rattle.std.proofs.lemmas.Bool.{lt-ltb, eqb-true, cases_lt}
use Rattle.std.proofs.lemmas.List.{append-nil, append_assoc, map-append, take-append-drop, length-take, length-drop, length-map, drop-drop, get_or-take, get_or-drop}
use Rattle.std.proofs.lemmas.List.Elements.{filter-append}
use Rattle.std.proofs.lemmas.Simd.{map-map}
use Rattle.road_pieces.proofs.Members.{IsIn, of_map, at_in}
use Rattle.road_walks.specs.Orders.{put_in, rising}
use Rattle.road_walks.proofs.Sorted.{of_rising, numbers_connected, below_self}
use Rattle.work_tile.specs.WorkRows.{WorkRows}
use Rattle.hierarchy.specs.declared.spots.Spot.{Spot}
use Rattle.hierarchy.specs.Spots.{PlacedNode, placed_of, nodes_under, tile_of_nodes, tiles_of_nodes, TilesRise}

-- ---- lists

-- two ways to values that agree on the elements
pub map_in : {A B : Type 0} (f g : A → B) (es : List A) → ((e : A) → IsIn es e → f e ≡ g e) → map f es ≡ map g es
map_in f g [] same = refl
map_in f g (e ∷ es) same = λ i. same e (inl refl) i ∷ map_in f g es (λ d h. same d (inr h)) i

pub filter_all : {E : Type 0} (test : E → Bool) (es : List E) → ((e : E) → IsIn es e → test e ≡ true) → filter test es ≡ es
filter_all test [] all = refl
filter_all test (e ∷ es) all =
    ap (λ b. cond b (e ∷ filter test es) (filter test es)) (all e (inl refl)) ∙ ap (λ l. e ∷ l) (filter_all test es (λ d h. all d (inr h)))

pub filter_none : {E : Type 0} (test : E → Bool) (es : List E) → ((e : E) → IsIn es e → test e ≡ false) → filter test es ≡ []
filter_none test [] none = refl
filter_none test (e ∷ es) none =
    ap (λ b. cond b (e ∷ filter test es) (filter test es)) (none e (inl refl)) ∙ filter_none test es (λ d h. none d (inr h))

not_equal : (a b : ℕ) → a ≢ b → nat_eq a b ≡ false
not_equal a b apart = by (nat_eq a b) refl
  where
    by : (t : Bool) → nat_eq a b ≡ t → t ≡ false
    by true e = absurd (apart (eqb-true a b e))
    by false e = refl

-- ---- the front

put_first : (c : ℕ) (ns : List ℕ) → ((n : ℕ) → IsIn ns n → c < n) → put_in nat_lt c ns ≡ c ∷ ns
put_first c [] below = refl
put_first c (n ∷ ns) below = ap (λ b. cond b (c ∷ n ∷ ns) (cond (nat_lt n c) (n ∷ put_in nat_lt c ns) (n ∷ ns))) (lt-ltb c n (below n (inl refl)))

not_below : (c : ℕ) → nat_lt c c ≡ false
not_below c = by (nat_lt c c) refl
  where
    by : (t : Bool) → nat_lt c c ≡ t → t ≡ false
    by true e = absurd (below_self c e)
    by false e = refl

put_again : (c : ℕ) (ns : List ℕ) → put_in nat_lt c (c ∷ ns) ≡ c ∷ ns
put_again c ns =
    ap (λ b. cond b (c ∷ c ∷ ns) (cond (nat_lt c c) (c ∷ put_in nat_lt c ns) (c ∷ ns))) (not_below c)
    ∙ ap (λ b. cond b (c ∷ put_in nat_lt c ns) (c ∷ ns)) (not_below c)

rising_front : (c : ℕ) (ms ns : List ℕ) → 0 < length ms → ((m : ℕ) → IsIn ms m → m ≡ c) → ((n : ℕ) → IsIn ns n → c < n) → rising nat_lt (ms ++ ns) ≡ c ∷ rising nat_lt ns
rising_front c [] ns some all below = absurd (omega (arith, some))
rising_front c (m ∷ []) ns some all below =
    ap (λ n. put_in nat_lt n (rising nat_lt ns)) (all m (inl refl))
    ∙ put_first c (rising nat_lt ns) (λ n h. below n (of_rising nat_lt numbers_connected ns n h))
rising_front c (m ∷ l ∷ ms) ns some all below =
    ap (λ n. put_in nat_lt n (rising nat_lt ((l ∷ ms) ++ ns))) (all m (inl refl))
    ∙ (ap (put_in nat_lt c) (rising_front c (l ∷ ms) ns (omega arith) (λ n h. all n (inr h)) below) ∙ put_again c (rising nat_lt ns))

-- nodes of one tile at the front, and behind them nodes of tiles with a greater number
pub front_tile : (k c : ℕ) (ps qs : List PlacedNode) → 0 < length ps → ((p : PlacedNode) → IsIn ps p → p.tile ≡ c) → ((q : PlacedNode) → IsIn qs q → c < q.tile)
    → tiles_of_nodes k (ps ++ qs) ≡ record { level = k; tile = c; nodes = map (λ p. p.node) ps } ∷ tiles_of_nodes k qs
unfolding tiles_of_nodes
front_tile k c ps qs some all below =
    ap (map (tile_of_nodes k (ps ++ qs))) (ap (rising nat_lt) (map-append (λ p. p.tile) ps qs)
    ∙ rising_front c (map (λ p. p.tile) ps) (map (λ p. p.tile) qs) (some_tiles ps some)
    (λ m h. let (p, (is, e)) = of_map (λ p. p.tile) ps m h in sym e ∙ all p is)
    (λ n h. let (q, (is, e)) = of_map (λ p. p.tile) qs n h in subst (λ m. c < m) e (below q is)))
    ∙ (λ i. first i ∷ others i)
  where
    some_tiles : (ps : List PlacedNode) → 0 < length ps → 0 < length (map (λ p. p.tile) ps)
    some_tiles [] h = h
    some_tiles (p ∷ ps) h = omega arith

    under : (d : ℕ) → nodes_under (ps ++ qs) d ≡ map (λ p. p.node) (filter (λ p. nat_eq p.tile d) ps ++ filter (λ p. nat_eq p.tile d) qs)
    under d = ap (map (λ p. p.node)) (filter-append (λ p. nat_eq p.tile d) ps qs)

    first : tile_of_nodes k (ps ++ qs) c ≡ record { level = k; tile = c; nodes = map (λ p. p.node) ps }
    first =
        let here : nodes_under (ps ++ qs) c ≡ map (λ p. p.node) ps =
        under c ∙ ap (map (λ p. p.node))
        (ap (λ l. l ++ filter (λ p. nat_eq p.tile c) qs) (filter_all (λ p. nat_eq p.tile c) ps (λ p h. eq-eqb p.tile c (all p h)))
        ∙ (ap (λ l. ps ++ l) (filter_none (λ p. nat_eq p.tile c) qs (λ q h. not_equal q.tile c (λ e. let low = below q h in omega (arith, low, e)))) ∙ append-nil ps)) in
        ap (λ ns. record { level = k; tile = c; nodes = ns }) here

    others : map (tile_of_nodes k (ps ++ qs)) (rising nat_lt (map (λ p. p.tile) qs)) ≡ map (tile_of_nodes k qs) (rising nat_lt (map (λ p. p.tile) qs))
    others = map_in (tile_of_nodes k (ps ++ qs)) (tile_of_nodes k qs) (rising nat_lt (map (λ p. p.tile) qs))
        (λ d h. let (q, (is, e)) = of_map (λ p. p.tile) qs d (of_rising nat_lt numbers_connected (map (λ p. p.tile) qs) d h) in
        let low : c < d = subst (λ m. c < m) e (below q is) in
        ap (λ ns. record { level = k; tile = d; nodes = ns })
        (under d ∙ ap (λ l. map (λ p. p.node) (l ++ filter (λ p. nat_eq p.tile d) qs)) (filter_none (λ p. nat_eq p.tile d) ps (λ p i. not_equal p.tile d (λ same. let mine = all p i in omega (arith, low, same, mine))))))

-- ---- the spots from one place on

module _ (k : ℕ) (tiles : List WorkRows) (spots : List Spot) (from to : ℕ) where
  abbrev told : List Spot → List PlacedNode
  told l = map (placed_of k tiles) l

  -- the run, and what is behind it
  abbrev pub run_of : List Spot
  run_of = take (to - from) (drop from spots)

  rest_is : from < to → run_of ++ drop to spots ≡ drop from spots
  rest_is low =
      ap (λ n. run_of ++ drop n spots) {x = to} {y = from + (to - from)} (omega (arith, low))
      ∙ (ap (λ l. run_of ++ l) (sym (drop-drop (to - from) from spots)) ∙ take-append-drop (to - from) (drop from spots))

  run_long : from < to → to ≤ length spots → length run_of ≡ to - from
  run_long low high = omega (arith, low, high, length-take (to - from) (drop from spots), length-drop from spots)

  in_run : (s : Spot) → IsIn run_of s → (i : ℕ) × ((i < to - from) × ((e : Spot) → get_or spots (from + i) e ≡ s))
  in_run s h =
      let (i, (inside, is)) = at_in run_of s h in
      let short : i < to - from = omega (arith, inside, length-take (to - from) (drop from spots)) in
      (i, (short, λ e. sym (get_or-take (to - from) (drop from spots) i e short ∙ get_or-drop from spots i e) ∙ is e))

  behind_run : (d : Spot) → from < to → to ≤ length spots → TilesRise spots → ((e : Spot) → to < length spots → (get_or spots to e).tile ≢ (get_or spots from e).tile)
      → (s : Spot) → IsIn (drop to spots) s → (get_or spots from d).tile < s.tile
  behind_run d low high rises other s h =
      let (j, (inside, is)) = at_in (drop to spots) s h in
      let there : to + j < length spots = omega (arith, inside, length-drop to spots, high) in
      let at : get_or spots (to + j) d ≡ s = sym (get_or-drop to spots j d) ∙ is d in
      let apart = other d (omega (arith, there)) in
      let up = rises.rise from to d low (omega (arith, there)) in
      let on : (get_or spots to d).tile ≤ (get_or spots (to + j) d).tile = further j there in
      let over : (get_or spots from d).tile < (get_or spots to d).tile = strict (get_or spots from d).tile (get_or spots to d).tile up apart in
      subst (λ e. (get_or spots from d).tile < e.tile) at (omega (arith, over, on))
    where
      further : (j : ℕ) → to + j < length spots → (get_or spots to d).tile ≤ (get_or spots (to + j) d).tile
      further zero inside = subst (λ n. (get_or spots to d).tile ≤ (get_or spots n d).tile) {x = to} {y = to + zero} (omega arith) (omega arith)
      further (suc j) inside = rises.rise to (to + suc j) d (omega arith) inside

      strict : (a b : ℕ) → a ≤ b → b ≢ a → a < b
      strict a b h apart = elim (cases_lt a b) [ inl l ↦ l | inr g ↦ absurd (apart (omega (arith, g, h))) ]

  pub run_tile : (d : Spot) → from < to → to ≤ length spots → TilesRise spots
      → ((i : ℕ) (e : Spot) → from ≤ i → i < to → (get_or spots i e).tile ≡ (get_or spots from e).tile)
      → ((e : Spot) → to < length spots → (get_or spots to e).tile ≢ (get_or spots from e).tile)
      → tiles_of_nodes k (told (drop from spots)) ≡ record { level = k; tile = (get_or spots from d).tile; nodes = map (λ s. (placed_of k tiles s).node) run_of } ∷ tiles_of_nodes k (told (drop to spots))
  run_tile d low high rises same other =
      ap (λ l. tiles_of_nodes k (told l)) (sym (rest_is low))
      ∙ (ap (tiles_of_nodes k) (map-append (placed_of k tiles) run_of (drop to spots))
      ∙ (front_tile k (get_or spots from d).tile (told run_of) (told (drop to spots))
      (omega (arith, low, run_long low high, length-map run_of (placed_of k tiles)))
      (λ p h. let (s, (is, e)) = of_map (placed_of k tiles) run_of p h in
      let (i, (short, at)) = in_run s is in
      sym (ap (λ q. q.tile) e) ∙ (ap (λ r. r.tile) (sym (at d)) ∙ same (from + i) d (omega arith) (omega (arith, short))))
      (λ q h. let (s, (is, e)) = of_map (placed_of k tiles) (drop to spots) q h in
      subst (λ r. (get_or spots from d).tile < r.tile) e (behind_run d low high rises other s is))
      ∙ ap (λ ns. record { level = k; tile = (get_or spots from d).tile; nodes = ns } ∷ tiles_of_nodes k (told (drop to spots))) (map-map (λ p. p.node) (placed_of k tiles) run_of)))

-- the tile of the run behind the others, then those of what is left
pub tile_put : (k : ℕ) (tiles : List WorkRows) (spots : List Spot) (from to : ℕ) (d : Spot) (all before after : List WorkRows) (tile : WorkRows) → from < to → to ≤ length spots → TilesRise spots
    → ((i : ℕ) (e : Spot) → from ≤ i → i < to → (get_or spots i e).tile ≡ (get_or spots from e).tile)
    → ((e : Spot) → to < length spots → (get_or spots to e).tile ≢ (get_or spots from e).tile)
    → tile ≡ record { level = k; tile = (get_or spots from d).tile; nodes = map (λ s. (placed_of k tiles s).node) (take (to - from) (drop from spots)) }
    → after ≡ before ++ tile ∷ [] → before ++ tiles_of_nodes k (map (placed_of k tiles) (drop from spots)) ≡ all
    → after ++ tiles_of_nodes k (map (placed_of k tiles) (drop to spots)) ≡ all
tile_put k tiles spots from to d all before after tile low high rises same other is put whole =
    let left : List WorkRows = tiles_of_nodes k (map (placed_of k tiles) (drop to spots)) in
    ap (λ l. l ++ left) put ∙ (append_assoc before (tile ∷ []) left
    ∙ (ap (λ t. before ++ t ∷ left) is ∙ (ap (λ l. before ++ l) (sym (run_tile k tiles spots from to d low high rises same other)) ∙ whole)))

none_left : (k : ℕ) → tiles_of_nodes k [] ≡ []
unfolding tiles_of_nodes
none_left k = refl

pub tiles_put : (k : ℕ) (tiles : List WorkRows) (spots : List Spot) (from : ℕ) (all made : List WorkRows) → length spots ≤ from → made ++ tiles_of_nodes k (map (placed_of k tiles) (drop from spots)) ≡ all → made ≡ all
tiles_put k tiles spots from all made over whole =
    sym (append-nil made) ∙ (ap (λ l. made ++ l) (sym (ap (λ l. tiles_of_nodes k (map (placed_of k tiles) l)) (none from spots over) ∙ none_left k)) ∙ whole)
  where
    none : (i : ℕ) (l : List Spot) → length l ≤ i → drop i l ≡ []
    none zero [] h = refl
    none zero (s ∷ l) h = absurd (omega (arith, h))
    none (suc i) [] h = refl
    none (suc i) (s ∷ l) h = none i l (omega (arith, h))
