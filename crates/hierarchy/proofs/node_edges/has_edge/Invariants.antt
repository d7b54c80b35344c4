-- No edge so far is on the level.
use Rattle.std.proofs.Common.{◌≡◌, [], take}
use Rattle.std.specs.List.{filter}
use Rattle.hierarchy.specs.Lifted.{is_on_level}
use Rattle.hierarchy.proofs.node_edges.has_edge.Given as goal

abbrev pub invariant-loop-k : goal.invariant-loop-k
invariant-loop-k l = filter (is_on_level l.level) (take l.k l.node.edges) ≡ []
