-- The pieces of the lines so far are counted, and are no more than their places.
use Rattle.std.proofs.Common.{◌≡◌, ◌≤◌, take}
use Rattle.road_pieces.specs.Counts.{pieces_of_lines, places_of_lines}
use Rattle.road_pieces.proofs.counts.count_pieces.Given as goal

abbrev pub invariant-loop-i : goal.invariant-loop-i
invariant-loop-i l =
    (l.count ≡ pieces_of_lines l.flags (take l.i l.lines.done)) × (l.count ≤ places_of_lines (take l.i l.lines.done))
