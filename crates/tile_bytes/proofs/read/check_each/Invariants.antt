use Rattle.std.proofs.Common.{◌≡◌, ◌+◌, ◌*◌, ℕ, List, drop}
use Rattle.edge_info.specs.Starts.{MarkStarts}
use Rattle.tile_bytes.specs.TileReading.{edge_entries_at}
use Rattle.tile_bytes.proofs.read.check_each.Given as goal

abbrev pub invariant-loop-i : goal.invariant-loop-i
invariant-loop-i l = (starts : List ℕ) → MarkStarts l.marks starts → edge_entries_at (l.at + 32 * l.i) starts (drop l.i l.edges) ≡ edge_entries_at l.at starts l.edges
