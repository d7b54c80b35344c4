use Rattle.std.proofs.Common.{sym, arith, ◌∙◌}
use Rattle.hierarchy.specs.Lifted.{is_on_level}
use Rattle.hierarchy.proofs.EdgesPut.{some_found}
use Rattle.hierarchy.proofs.node_edges.has_edge.Goals as goal

pub returns-then-is_on : goal.returns-then-is_on
returns-then-is_on c = sym (some_found (is_on_level c.args.level) c.args.node.now.edges c.loop-k.k c.edge-edge.result (omega arith) c.edge-edge.ensures (sym c.is_on.ensures ∙ c.if-is_on.true))
