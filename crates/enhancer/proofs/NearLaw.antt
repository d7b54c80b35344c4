-- The density that is found from the spots near a tile is that of the whole world.
use Rattle.std.proofs.Common.{◌≡◌, ℕ, ◌/◌, ◌<◌, ◌==◌, suc, Bool, true, false, cond, Option, Some, None, List, [], ◌∷◌, map, refl, sym, ap, ◌∙◌, subst, inl, inr, arith}
use Rattle.std.specs.Prelude.{sum_by, min, position, All}
use Rattle.std.specs.List.{range_with_len}
use Rattle.std.proofs.lemmas.Bool.{cases_Bool, cond-false}
use Rattle.fixed_geo.specs.declared.points.Point.{Point}
use Rattle.fixed_geo.specs.Place.{IsPlace}
use Rattle.tile_geometry.specs.Grid.{grid_tile}
use Rattle.bounded_flood.specs.Flood.{Occurs}
use Rattle.bounded_flood.proofs.Members.{Distinct}
use Rattle.work_tile.specs.Places.{tile_number}
use Rattle.work_tile.specs.WorkRows.{WorkNode, WorkRows}
use Rattle.enhancer.specs.Enhanced.{FitPlaces, StandsIn}
use Rattle.enhancer.specs.Graph.{at_position}
use Rattle.enhancer.specs.Density.{is_near, cut_cm, cm_if_near, cm_in_tile, cm_near, spot_of, spot_cm, near_tile, near_tiles, nodes_in, tile_spots, near_spots, density_of}
use Rattle.enhancer.proofs.Beside.{beside_near, nine_differ}
use Rattle.enhancer.proofs.NearSums.{sum-map, sum-flat_map, cut_alike, none_adds, lookup, worth, look_up, few_add, rise_distinct, in_image, images_distinct}

-- the spots of nodes have the lengths of these, cut
cut_case : (b : Bool) (w : ℕ) → min 15_000_000 (cond b (min 15_000_000 w) 0) ≡ min 15_000_000 (cond b w 0)
cut_case true w = omega arith
cut_case false w = refl

spots_cut : (at : Point) (ns : List WorkNode) → min 15_000_000 (sum_by (spot_cm at) (map spot_of ns)) ≡ min 15_000_000 (sum_by (cm_if_near at) ns)
spots_cut at ns =
    ap (min 15_000_000) (sum-map (spot_cm at) spot_of ns)
    ∙ cut_alike (λ n. spot_cm at (spot_of n)) (cm_if_near at) (λ n. cut_case (is_near n.at at) (sum_by (λ e. e.cm) n.edges)) ns

-- all elements of a list have what holds at its indexes
pub of_all : {X : Type 0} (P : X → Type 0) (xs : List X) → All P xs → (x : X) → Occurs x xs → P x
of_all P [] all x at = absurd at
of_all P (y ∷ ys) all x at = elim at [
  | inl e ↦ subst P e (all 0 y (omega arith))
  | inr there ↦ of_all P ys (λ k d inside. all (suc k) d (omega (arith, inside))) x there
]

abbrev number : WorkRows → ℕ
number r = tile_number r.level r.tile

worth_is : (at : Point) (o : Option WorkRows) → sum_by (cm_if_near at) (nodes_in o) ≡ worth number (cm_in_tile at) o
unfolding cm_in_tile
worth_is at None = refl
worth_is at (Some r) = refl

module _ (places : List ℕ) (ps : List WorkRows) (tile : ℕ) (at : Point) (fits : FitPlaces places ps) (place : IsPlace at) (here : grid_tile 2 at ≡ tile) (inside : tile < 1_036_800) where
  abbrev numbers : List ℕ
  numbers = map (λ k. tile_number 2 (near_tile tile k)) (range_with_len 0 9)

  numbers_differ : Distinct numbers
  numbers_differ =
      images_distinct (λ k. tile_number 2 (near_tile tile k)) 0 9
      (λ j k hj hk e. nine_differ tile j k inside (omega (arith, hj)) (omega (arith, hk)) (omega (arith, e)))

  places_differ : Distinct (map number ps)
  places_differ = subst Distinct (sym fits.numbers) (rise_distinct places fits.rise)

  -- a tile that isn't one of the nine has no node near the place
  far : (r : WorkRows) → Occurs r ps → (Occurs (number r) numbers → ⊥) → cm_in_tile at r ≡ 0
  unfolding cm_in_tile
  far r there absent =
      let level : r.level ≡ 2 = of_all (λ (q : WorkRows). q.level ≡ 2) ps fits.levels r there in
      let stand = of_all (λ (q : WorkRows). All (StandsIn q.tile) q.nodes) ps fits.stand r there in
      none_adds (cm_if_near at) r.nodes (λ n in_it.
      let stands = of_all (StandsIn r.tile) r.nodes stand n in_it in
      elim (cases_Bool (is_near n.at at)) [
        | inl near ↦
            let w = beside_near n.at at stands.0 place near in
            let same : tile_number 2 (near_tile tile w.0) ≡ number r =
            ap (λ u. tile_number 2 (near_tile u w.0)) (sym here) ∙ ap (tile_number 2) (w.2 ∙ stands.1) ∙ ap (λ l. tile_number l r.tile) (sym level) in
            absurd (absent (subst (λ m. Occurs m numbers) same (in_image (λ k. tile_number 2 (near_tile tile k)) w.0 0 9 (omega arith) (omega (arith, w.1)))))
        | inr not_near ↦ cond-false (is_near n.at at) (sum_by (λ e. e.cm) n.edges) 0 not_near
      ])

  found : (t : ℕ) → sum_by (cm_if_near at) (nodes_in (at_position ps (position (λ n. n == t) places))) ≡ worth number (cm_in_tile at) (lookup number ps t)
  found t =
      worth_is at (at_position ps (position (λ n. n == t) places))
      ∙ ap (λ ns. worth number (cm_in_tile at) (at_position ps (position (λ n. n == t) ns))) (sym fits.numbers)
      ∙ ap (worth number (cm_in_tile at)) (look_up number ps t)

  whole : sum_by (λ t. sum_by (cm_if_near at) (nodes_in (at_position ps (position (λ n. n == tile_number 2 t) places)))) (near_tiles tile) ≡ cm_near at ps
  whole =
      (λ i. sum_by (λ t. found (tile_number 2 t) i) (near_tiles tile))
      ∙ sum-map (λ t. worth number (cm_in_tile at) (lookup number ps (tile_number 2 t))) (near_tile tile) (range_with_len 0 9)
      ∙ sym (sum-map (λ t. worth number (cm_in_tile at) (lookup number ps t)) (λ k. tile_number 2 (near_tile tile k)) (range_with_len 0 9))
      ∙ few_add number (cm_in_tile at) ps numbers numbers_differ places_differ far

  cut_whole : cut_cm (sum_by (spot_cm at) (near_spots places ps tile)) ≡ cut_cm (cm_near at ps)
  unfolding near_spots
  cut_whole =
      ap (min 15_000_000) (sum-flat_map (spot_cm at) (tile_spots places ps) (near_tiles tile))
      ∙ cut_alike (λ t. sum_by (spot_cm at) (tile_spots places ps t)) (λ t. sum_by (cm_if_near at) (nodes_in (at_position ps (position (λ n. n == tile_number 2 t) places))))
      (λ t. spots_cut at (nodes_in (at_position ps (position (λ n. n == tile_number 2 t) places)))) (near_tiles tile)
      ∙ ap (min 15_000_000) whole

  pub near_law : cut_cm (sum_by (spot_cm at) (near_spots places ps tile)) / 1_000_000 ≡ density_of at ps
  unfolding density_of
  near_law = let e = cut_whole in omega (arith, e)
