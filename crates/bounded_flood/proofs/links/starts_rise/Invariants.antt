use Rattle.std.proofs.Common.{ℕ, ◌+◌, ◌<◌, ◌≤◌}
use Rattle.std.specs.Prelude.{slice_index_or}
use Rattle.bounded_flood.proofs.links.starts_rise.Given as goal

abbrev pub invariant-loop-x : goal.invariant-loop-x
invariant-loop-x l =
    record {
      rise : (y : ℕ) → y + 1 < l.x → slice_index_or l.starts y 0 ≤ slice_index_or l.starts (y + 1) 0;
      within : (y : ℕ) → y < l.x → slice_index_or l.starts y 0 ≤ l.most;
    }
