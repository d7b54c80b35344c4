-- Spots below `low` are in lower cells, and those from `high` on aren't.
use Rattle.std.proofs.Common.{ℕ, ◌-◌, ◌<◌, ◌≤◌, length}
use Rattle.std.specs.List.{slice_index_or}
use Rattle.enhancer.specs.declared.spots.Spot.{Spot}
use Rattle.enhancer.proofs.cells.first_in.Given as goal

abbrev pub invariant-loop-low : goal.invariant-loop-low
invariant-loop-low l =
    record {
      within : l.low ≤ l.high;
      inside : l.high ≤ length l.spots;
      below : (j : ℕ) (d : Spot) → j < l.low → (slice_index_or l.spots j d).cell < l.cell;
      above : (j : ℕ) (d : Spot) → l.high ≤ j → j < length l.spots → l.cell ≤ (slice_index_or l.spots j d).cell;
    }

abbrev pub decreases-loop-low : goal.decreases-loop-low
decreases-loop-low l = l.high - l.low
