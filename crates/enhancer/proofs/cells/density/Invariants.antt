-- What was added so far, cell by cell.
use Rattle.std.proofs.Common.{◌≡◌, ◌==◌, ℕ, map}
use Rattle.std.specs.Prelude.{sum_by, min, filter}
use Rattle.std.specs.List.{range_with_len}
use Rattle.enhancer.specs.Cells.{near_cell}
use Rattle.enhancer.specs.Density.{spot_cm}
use Rattle.enhancer.proofs.cells.density.Given as goal

abbrev pub invariant-loop-k : goal.invariant-loop-k
invariant-loop-k l = l.total ≡ min 15_000_000 (sum_by {X = ℕ} (λ n. sum_by (spot_cm l.at) (filter (λ s. s.cell == n) l.spots)) (map (near_cell l.cell) (range_with_len 0 l.k)))
