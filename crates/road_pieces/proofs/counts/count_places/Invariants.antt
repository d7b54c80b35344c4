-- The places of the lines so far are counted.
use Rattle.std.proofs.Common.{◌≡◌, take}
use Rattle.road_pieces.specs.Counts.{places_of_lines}
use Rattle.road_pieces.proofs.counts.count_places.Given as goal

abbrev pub invariant-loop-i : goal.invariant-loop-i
invariant-loop-i l = l.count ≡ places_of_lines (take l.i l.lines.done)
