-- The node is sought from `low` on and before `high`.
use Rattle.std.proofs.Common.{◌-◌}
use Rattle.enhancer.proofs.Halves.{OnlyBetween}
use Rattle.enhancer.proofs.readable.node_place.Given as goal

abbrev pub invariant-loop-low : goal.invariant-loop-low
invariant-loop-low l = OnlyBetween l.rows.nodes l.osm l.low l.high

abbrev pub decreases-loop-low : goal.decreases-loop-low
decreases-loop-low l = l.high - l.low
