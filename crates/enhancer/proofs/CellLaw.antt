-- What nine cells add is what all spots do.
use Rattle.std.proofs.Common.{◌≡◌, ℕ, ◌<◌, ◌==◌, List, map, sym, ap, ◌∙◌, subst, inl, inr, arith}
use Rattle.std.specs.Prelude.{sum_by, filter, All}
use Rattle.std.specs.List.{range_with_len}
use Rattle.std.proofs.lemmas.Bool.{cases_Bool, cond-false}
use Rattle.fixed_geo.specs.declared.points.Point.{Point}
use Rattle.fixed_geo.specs.Place.{IsPlace}
use Rattle.bounded_flood.specs.Flood.{Occurs}
use Rattle.enhancer.specs.declared.spots.Spot.{Spot}
use Rattle.enhancer.specs.Cells.{geo_cell, near_cell}
use Rattle.enhancer.specs.Density.{is_near, spot_cm}
use Rattle.enhancer.proofs.CellsBeside.{cells_near, cells_differ}
use Rattle.enhancer.proofs.Keyed.{keyed}
use Rattle.enhancer.proofs.NearLaw.{of_all}
use Rattle.enhancer.proofs.NearSums.{in_image, images_distinct}

pub cells_add : (spots : List Spot) (at : Point) (cell : ℕ) → cell ≡ geo_cell at → cell < 360_000_000 → IsPlace at
    → All (λ (s : Spot). s.cell ≡ geo_cell s.at) spots → All (λ (s : Spot). IsPlace s.at) spots
    → sum_by {X = ℕ} (λ n. sum_by (spot_cm at) (filter (λ s. s.cell == n) spots)) (map (near_cell cell) (range_with_len 0 9)) ≡ sum_by (spot_cm at) spots
cells_add spots at cell here inside place cells placed =
    keyed (λ (s : Spot). s.cell) (spot_cm at) (map (near_cell cell) (range_with_len 0 9))
    (images_distinct (near_cell cell) 0 9 (λ j k hj hk e. cells_differ cell j k inside (omega (arith, hj)) (omega (arith, hk)) e))
    spots
    (λ s there absent. elim (cases_Bool (is_near s.at at)) [
      | inl near ↦
          let w = cells_near s.at at (of_all (λ (q : Spot). IsPlace q.at) spots placed s there) place near in
          let same : near_cell cell w.0 ≡ s.cell = ap (λ c. near_cell c w.0) here ∙ w.2 ∙ sym (of_all (λ (q : Spot). q.cell ≡ geo_cell q.at) spots cells s there) in
          absurd (absent (subst (λ n. Occurs n (map (near_cell cell) (range_with_len 0 9))) same (in_image (near_cell cell) w.0 0 9 (omega arith) (omega (arith, w.1)))))
      | inr not_near ↦ cond-false (is_near s.at at) s.cm 0 not_near
    ])
