-- No edge so far is kept.
use Rattle.std.proofs.Common.{◌≡◌, [], take}
use Rattle.std.specs.List.{filter}
use Rattle.access_filter.specs.Kept.{is_kept_edge}
use Rattle.access_filter.proofs.node_edges.has_kept.Given as goal

abbrev pub invariant-loop-k : goal.invariant-loop-k
invariant-loop-k l = filter (is_kept_edge l.modes) (take l.k l.node.edges) ≡ []
