-- What was added so far, from the first spot of the cell on.
use Rattle.std.proofs.Common.{◌≡◌, ◌+◌, ◌==◌, ℕ, ◌≤◌, ◌<◌, take, length}
use Rattle.std.specs.Prelude.{sum_by, min, filter}
use Rattle.std.specs.List.{slice_index_or}
use Rattle.enhancer.specs.declared.spots.Spot.{Spot}
use Rattle.enhancer.specs.Density.{spot_cm}
use Rattle.enhancer.proofs.cells.add_cell.Given as goal

abbrev pub invariant-loop-i : goal.invariant-loop-i
invariant-loop-i l =
    record {
      sum : l.sum ≡ min 15_000_000 (l.total + sum_by (spot_cm l.at) (filter (λ s. s.cell == l.cell) (take l.i l.spots)));
      above : (j : ℕ) (d : Spot) → l.i ≤ j → j < length l.spots → l.cell ≤ (slice_index_or l.spots j d).cell;
    }
