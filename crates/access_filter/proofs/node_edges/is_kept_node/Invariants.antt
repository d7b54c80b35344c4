-- The edges so far are kept.
use Rattle.std.proofs.Common.{◌≡◌, take}
use Rattle.std.specs.List.{filter}
use Rattle.access_filter.specs.Kept.{is_kept_edge}
use Rattle.access_filter.proofs.node_edges.is_kept_node.Given as goal

abbrev pub invariant-loop-k : goal.invariant-loop-k
invariant-loop-k l = filter (is_kept_edge l.modes) (take l.k l.node.edges) ≡ take l.k l.node.edges
