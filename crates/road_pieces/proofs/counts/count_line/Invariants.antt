-- The junctions so far, with those of the rest, are those of the line.
use Rattle.std.proofs.Common.{◌≡◌, ◌+◌, ◌-◌, ◌≤◌, false, length, drop, get_or}
use Rattle.road_pieces.specs.Rows.{stops}
use Rattle.road_pieces.specs.Counts.{pieces_in}
use Rattle.road_pieces.proofs.counts.count_line.Given as goal

abbrev pub invariant-loop-i : goal.invariant-loop-i
invariant-loop-i l =
    (l.count + length (stops (λ p. get_or l.flags p false) l.i (drop l.i l.places)) ≡ pieces_in l.flags l.places) × (l.count ≤ l.i - 1)
