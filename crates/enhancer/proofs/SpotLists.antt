-- What holds of all spots near a tile.
use Rattle.std.proofs.Common.{◌≡◌, ℕ, suc, Option, Some, None, List, [], ◌∷◌, map, refl, sym, subst, arith}
use Rattle.std.specs.Prelude.{All, position, slice_get, flat_map, ◌==◌}
use Rattle.std.proofs.lemmas.List.Concat.{flat_map-cons}
use Rattle.std.proofs.lemmas.List.Elements.{All-append, All-cons}
use Rattle.bounded_flood.proofs.Members.{place-Occurs}
use Rattle.fixed_geo.specs.Place.{IsPlace}
use Rattle.work_tile.specs.Places.{tile_number}
use Rattle.work_tile.specs.WorkRows.{WorkNode, WorkRows}
use Rattle.enhancer.specs.declared.spots.Spot.{Spot}
use Rattle.enhancer.specs.Enhanced.{FitPlaces, StandsIn}
use Rattle.enhancer.specs.Graph.{at_position}
use Rattle.enhancer.specs.Cells.{geo_cell}
use Rattle.enhancer.specs.Density.{spot_of, nodes_in, tile_spots, near_tiles, near_spots}
use Rattle.enhancer.proofs.NearLaw.{of_all}

all_none : {X : Type 0} (P : X → Type 0) → All P []
all_none P = λ k d inside. absurd (omega (arith, inside))

all_flat : {X Y : Type 0} (P : Y → Type 0) (g : X → List Y) → ((x : X) → All P (g x)) → (xs : List X) → All P (flat_map g xs)
all_flat P g each [] = all_none P
all_flat P g each (x ∷ xs) = subst (All P) (sym (flat_map-cons g x xs)) (All-append P (g x) (flat_map g xs) (each x) (all_flat P g each xs))

all_images : {X Y : Type 0} (P : Y → Type 0) (Q : X → Type 0) (f : X → Y) → ((x : X) → Q x → P (f x)) → (xs : List X) → All Q xs → All P (map f xs)
all_images P Q f each [] all = all_none P
all_images P Q f each (x ∷ xs) all =
    All-cons P (f x) (map f xs) (each x (all 0 x (omega arith))) (all_images P Q f each xs (λ k d inside. all (suc k) d (omega (arith, inside))))

-- each spot has the cell of its place
pub spots_in_cells : (places : List ℕ) (ps : List WorkRows) (tile : ℕ) → All (λ (s : Spot). s.cell ≡ geo_cell s.at) (near_spots places ps tile)
unfolding near_spots
spots_in_cells places ps tile =
    all_flat (λ (s : Spot). s.cell ≡ geo_cell s.at) (tile_spots places ps)
    (λ t. all_images (λ (s : Spot). s.cell ≡ geo_cell s.at) (λ (n : WorkNode). Unit {0}) spot_of (λ n u. refl) (nodes_in (at_position ps (position (λ m. m == tile_number 2 t) places))) (λ k d inside. tt))
    (near_tiles tile)

module _ (places : List ℕ) (ps : List WorkRows) (fits : FitPlaces places ps) where
  rows_placed : (i : ℕ) (o : Option WorkRows) → slice_get ps i ≡ o → All (λ (s : Spot). IsPlace s.at) (map spot_of (nodes_in o))
  rows_placed i None e = all_none (λ (s : Spot). IsPlace s.at)
  rows_placed i (Some r) e =
      all_images (λ (s : Spot). IsPlace s.at) (StandsIn r.tile) spot_of (λ n stands. stands.0) r.nodes
      (of_all (λ (q : WorkRows). All (StandsIn q.tile) q.nodes) ps fits.stand r (place-Occurs r ps i e))

  found_placed : (o : Option ℕ) → All (λ (s : Spot). IsPlace s.at) (map spot_of (nodes_in (at_position ps o)))
  found_placed None = all_none (λ (s : Spot). IsPlace s.at)
  found_placed (Some i) = rows_placed i (slice_get ps i) refl

  -- .. which is a place
  pub spots_placed : (tile : ℕ) → All (λ (s : Spot). IsPlace s.at) (near_spots places ps tile)
  unfolding near_spots
  spots_placed tile =
      all_flat (λ (s : Spot). IsPlace s.at) (tile_spots places ps) (λ t. found_placed (position (λ m. m == tile_number 2 t) places)) (near_tiles tile)
