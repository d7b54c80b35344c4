-- The base tiles, junction by junction and tile by tile.
use Rattle.std.proofs.Common.{◌≡◌, ℕ, zero, suc, ◌+◌, ◌<◌, ◌≤◌, refl, sym, ◌∙◌, ap, subst, List, [], ◌∷◌, ◌++◌, map, length, get_or, take, Bool, true, false, cond, Option, Some, None, find, option_map, nat_eq, arith, take-suc, add-one, ltb-false, flat_map}
use Rattle.std.specs.List.{range_with_len}
use Rattle.std.proofs.lemmas.List.{map-append, length-map, flat_map_more}
use Rattle.std.proofs.lemmas.Option.{none-some}
use Rattle.road_pieces.specs.declared.rows.Junction.{Junction}
use Rattle.road_pieces.specs.declared.rows.Piece.{Piece}
use Rattle.road_walks.specs.Orders.{not_none}
use Rattle.edge_builder.specs.Groups.{places_of}
use Rattle.edge_builder.specs.BaseRows.{base_rows, junction_tile, too_many, crowded}
use Rattle.edge_builder.specs.BaseTiles.{base_node, base_tile, junctions_in, tile_if_used, IsPlanned}
use Rattle.edge_builder.proofs.JunctionLemmas.{no_junction}
use Rattle.edge_builder.proofs.GroupLemmas.{stops_inside}
use Rattle.edge_builder.proofs.CrowdLemmas.{is_crowded}
use Rattle.edge_builder.proofs.EdgeLemmas.{planned_lengths}
use Rattle.edge_builder.proofs.RowLemmas.{stops_map, stops_read, edges_count}

-- ---- where no junction is crowded

pub none_found : {A B : Type 0} (f : A → B) (o : Option A) → option_map f o ≡ None → o ≡ None
none_found f (Some x) h = absurd (none-some (f x) (sym h))
none_found f None h = refl

pub fails_at : {A : Type 0} (test : A → Bool) (xs : List A) (i : ℕ) (d : A) → find test xs ≡ None → i < length xs → test (get_or xs i d) ≡ false
fails_at test [] i d h l = absurd (omega (arith, l))
fails_at test (x ∷ xs) i d h l = by (test x) refl h i l (fails_at test xs)
  where
    by : (b : Bool) → test x ≡ b → cond b (Some x) (find test xs) ≡ None → (i : ℕ) → i < length (x ∷ xs) → ((j : ℕ) (e : _) → find test xs ≡ None → j < length xs → test (get_or xs j e) ≡ false) → test (get_or (x ∷ xs) i d) ≡ false
    by true q n j m rest = absurd (none-some x (sym n))
    by false q n zero m rest = q
    by false q n (suc j) m rest = rest j d n (omega (arith, m))

pub few_edges : (js : List Junction) (ps : List Piece) (tiles starts : List ℕ) (p : ℕ) → IsPlanned js ps tiles starts → crowded js ps ≡ None → p < length js → length (places_of p starts) ≤ 127
few_edges js ps tiles starts p planned none h =
    let test = fails_at (is_crowded ps) js p no_junction (none_found (too_many ps) (find (is_crowded ps) js) none) h in
    let low = ltb-false 127 (length (base_rows ps (get_or js p no_junction).osm)) test in
    let count = ap (λ ks. length (places_of p ks)) planned.starts_are ∙ edges_count js ps p no_junction planned.roads.rise h in
    omega (arith, low, count)

-- ---- the nodes of a tile

map_map : {A B C : Type 0} (f : B → C) (g : A → B) (xs : List A) → map (λ x. f (g x)) xs ≡ map f (map g xs)
map_map f g [] = refl
map_map f g (x ∷ xs) = ap (λ es. f (g x) ∷ es) (map_map f g xs)

pub junctions_there : (js : List Junction) (tiles here : List ℕ) (tile : ℕ) → tiles ≡ map junction_tile js → here ≡ places_of tile tiles → map (λ p. get_or js p no_junction) here ≡ junctions_in js tile
junctions_there js tiles here tile are is =
    ap (map (λ p. get_or js p no_junction)) (is ∙ (ap (places_of tile) are ∙ stops_map (λ m. nat_eq m tile) junction_tile 0 js))
    ∙ stops_read (λ p. get_or js p no_junction) (λ j. nat_eq (junction_tile j) tile) 0 js no_junction (λ i l. ap (λ k. get_or js k no_junction) (omega arith))

pub nodes_there : (js : List Junction) (ps : List Piece) (tiles here : List ℕ) (tile : ℕ) → tiles ≡ map junction_tile js → here ≡ places_of tile tiles → map (λ p. base_node js ps (get_or js p no_junction)) here ≡ map (base_node js ps) (junctions_in js tile)
nodes_there js ps tiles here tile are is =
    map_map (base_node js ps) (λ p. get_or js p no_junction) here ∙ ap (map (base_node js ps)) (junctions_there js tiles here tile are is)

pub nodes_more : (js : List Junction) (ps : List Piece) (here : List ℕ) (i d : ℕ) → i < length here → map (λ p. base_node js ps (get_or js p no_junction)) (take i here) ++ base_node js ps (get_or js (get_or here i d) no_junction) ∷ [] ≡ map (λ p. base_node js ps (get_or js p no_junction)) (take (i + 1) here)
nodes_more js ps here i d h =
    sym (map-append (λ p. base_node js ps (get_or js p no_junction)) (take i here) (get_or here i d ∷ []))
    ∙ ap (map (λ p. base_node js ps (get_or js p no_junction))) (sym (take-suc here i d h) ∙ ap (λ k. take k here) (sym (add-one i)))

-- a place of a tile's number is that of a junction
pub here_inside : (js : List Junction) (ps : List Piece) (tiles starts here : List ℕ) (tile i d : ℕ) → IsPlanned js ps tiles starts → here ≡ places_of tile tiles → i < length here → get_or here i d < length js
here_inside js ps tiles starts here tile i d planned are h =
    let lengths = planned_lengths js ps tiles starts planned in
    let low = stops_inside (λ m. nat_eq m tile) 0 tiles i d (subst (λ ks. i < length ks) are h) in
    let same : get_or here i d ≡ get_or (places_of tile tiles) i d = ap (λ ks. get_or ks i d) are in
    omega (arith, low, same, lengths.0)

-- ---- the tiles

length-there : (js : List Junction) (tiles here : List ℕ) (tile : ℕ) → tiles ≡ map junction_tile js → here ≡ places_of tile tiles → length here ≡ length (junctions_in js tile)
length-there js tiles here tile are is = sym (length-map here (λ p. get_or js p no_junction)) ∙ ap length (junctions_there js tiles here tile are is)

used_by : {A : Type 0} {B : Type 0} (xs : List A) (t : B) → (length xs ≡ 0 → ⊥) → t ∷ [] ≡ cond (not_none xs) (t ∷ []) []
used_by [] t h = absurd (h refl)
used_by (x ∷ xs) t h = refl

not_used_by : {A : Type 0} {B : Type 0} (xs : List A) (t : B) → length xs ≡ 0 → [] ≡ cond (not_none xs) (t ∷ []) []
not_used_by [] t h = refl
not_used_by (x ∷ xs) t h = absurd (omega (arith, h))

pub used : (js : List Junction) (ps : List Piece) (tiles here : List ℕ) (tile : ℕ) → tiles ≡ map junction_tile js → here ≡ places_of tile tiles → (length here ≡ 0 → ⊥) → base_tile js ps tile ∷ [] ≡ tile_if_used js ps tile
used js ps tiles here tile are is h = used_by (junctions_in js tile) (base_tile js ps tile) (λ e. h (length-there js tiles here tile are is ∙ e))

pub not_used : (js : List Junction) (ps : List Piece) (tiles here : List ℕ) (tile : ℕ) → tiles ≡ map junction_tile js → here ≡ places_of tile tiles → length here ≡ 0 → [] ≡ tile_if_used js ps tile
not_used js ps tiles here tile are is h = not_used_by (junctions_in js tile) (base_tile js ps tile) (sym (length-there js tiles here tile are is) ∙ h)

range_suc : (a n : ℕ) → range_with_len a (suc n) ≡ range_with_len a n ++ (a + n) ∷ []
range_suc a zero = ap (λ k. k ∷ []) {x = a} {y = a + 0} (omega arith)
range_suc a (suc n) = ap (λ ks. a ∷ ks) (range_suc (a + 1) n ∙ ap (λ k. range_with_len (a + 1) n ++ k ∷ []) {x = a + 1 + n} {y = a + suc n} (omega arith))

pub tiles_more : {A : Type 0} (f : ℕ → List A) (n : ℕ) → flat_map f (range_with_len 0 n) ++ f n ≡ flat_map f (range_with_len 0 (n + 1))
tiles_more f n =
    flat_map_more f [] (range_with_len 0 n) n ∙ ap (λ k. flat_map f (range_with_len 0 n ++ k ∷ [])) {x = n} {y = 0 + n} (omega arith)
    ∙ ap (flat_map f) (sym (ap (range_with_len 0) (add-one n) ∙ range_suc 0 n))
