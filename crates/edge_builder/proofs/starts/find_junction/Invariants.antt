-- The junction stands from `low` on and before `high`.
use Rattle.std.proofs.Common.{◌<◌, ◌≤◌, ◌-◌, length}
use Rattle.edge_builder.specs.BaseRows.{junction_place}
use Rattle.edge_builder.proofs.starts.find_junction.Given as goal

abbrev pub invariant-loop-low : goal.invariant-loop-low
invariant-loop-low l =
    (l.low ≤ junction_place l.junctions l.id) × (junction_place l.junctions l.id < l.high) × (l.high ≤ length l.junctions)

abbrev pub decreases-loop-low : goal.decreases-loop-low
decreases-loop-low l = l.high - l.low
