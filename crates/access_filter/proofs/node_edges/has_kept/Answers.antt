use Rattle.std.proofs.Common.{sym, arith, ◌∙◌}
use Rattle.access_filter.specs.Kept.{is_kept_edge}
use Rattle.access_filter.proofs.Filtered.{some_found}
use Rattle.access_filter.proofs.node_edges.has_kept.Goals as goal

pub returns-then-is_kept : goal.returns-then-is_kept
returns-then-is_kept c = sym (some_found (is_kept_edge c.args.modes) c.args.node.now.edges c.loop-k.k c.edge-edge.result (omega arith) c.edge-edge.ensures (sym c.is_kept.ensures ∙ c.if-is_kept.true))
