-- The numbers that are grouped are below their bounds.
use Rattle.std.proofs.Common.{◌≡◌, ℕ, ◌<◌, refl, ◌∙◌, ap, subst, List, map, length, get_or, arith}
use Rattle.std.specs.Prelude.{All}
use Rattle.std.proofs.lemmas.List.{get_or-map, length-map}
use Rattle.fixed_geo.specs.Place.{IsPlace}
use Rattle.tile_geometry.specs.Grid.{tile_count}
use Rattle.tile_geometry.proofs.GridLaws.{grid_counted}
use Rattle.road_pieces.specs.declared.rows.Junction.{Junction}
use Rattle.road_pieces.specs.declared.rows.Piece.{Piece}
use Rattle.road_pieces.proofs.Members.{IsIn, in_at, of_map}
use Rattle.edge_builder.specs.BaseRows.{directed_rows, row_start, junction_tile, junction_place, start_places, IsJoined}
use Rattle.edge_builder.proofs.JunctionLemmas.{no_junction}
use Rattle.edge_builder.proofs.RowJunctions.{start_inside}

-- a tile of a junction is one of the level
pub below_count : (js : List Junction) (tiles : List ℕ) (bound : ℕ) → All (λ j. IsPlace j.at) js → tiles ≡ map junction_tile js → bound ≡ tile_count 2 → All (λ c. c < bound) tiles
below_count js tiles bound placed are is k d h =
    let low : k < length js = omega (arith, h, ap length are, length-map js junction_tile) in
    let tile : get_or tiles k d ≡ junction_tile (get_or js k no_junction) = ap (λ ts. get_or ts k d) are ∙ get_or-map junction_tile js k no_junction d low in
    let counted = grid_counted 2 (get_or js k no_junction).at (placed k no_junction low) in
    omega (arith, tile, counted, is)

-- an edge starts at a junction
pub below_length : (js : List Junction) (ps : List Piece) (starts : List ℕ) → All (IsJoined js) ps → starts ≡ start_places js ps → All (λ n. n < length js) starts
below_length js ps starts joined are k d h =
    let there : IsIn (start_places js ps) (get_or starts k d) = subst (λ ns. IsIn ns (get_or starts k d)) are (in_at starts k d (get_or starts k d) h refl) in
    let (r, (row, is)) = of_map (λ r. junction_place js (row_start r)) (directed_rows ps) (get_or starts k d) there in
    subst (λ n. n < length js) is (start_inside js ps r joined row)
