-- The node is sought from `low` on and before `high`.
use Rattle.std.proofs.Common.{◌-◌}
use Rattle.road_pieces.specs.NodeIndex.{OnlyWithin}
use Rattle.road_pieces.proofs.places.find_within.Given as goal

abbrev pub invariant-loop-low : goal.invariant-loop-low
invariant-loop-low l = OnlyWithin l.nodes l.id l.low l.high

abbrev pub decreases-loop-low : goal.decreases-loop-low
decreases-loop-low l = l.high - l.low
