-- The edges so far that are kept stand behind those of the last node.
use Rattle.std.proofs.Common.{take}
use Rattle.std.specs.List.{filter}
use Rattle.access_filter.specs.Kept.{is_kept_edge}
use Rattle.access_filter.proofs.EdgesPut.{ArePut}
use Rattle.access_filter.proofs.node_edges.keep_edges.Given as goal

abbrev pub invariant-loop-k : goal.invariant-loop-k
invariant-loop-k l = ArePut l.fn.kept l.kept (filter (is_kept_edge l.modes) (take l.k l.node.edges))
