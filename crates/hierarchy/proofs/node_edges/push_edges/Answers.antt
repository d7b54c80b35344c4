use Rattle.std.proofs.Common.{arith}
use Rattle.hierarchy.proofs.EdgesPut.{none_put, edges_more, some_stay}
use Rattle.hierarchy.proofs.node_edges.push_edges.Goals as goal

pub loop-k-init : goal.loop-k-init
loop-k-init c = none_put c.args.rows.now

pub push_edge-requires : goal.push_edge-requires
push_edge-requires c = record { some = some_stay c.args.rows.now c.loop-k.rows _ c.requires.some c.loop-k.invariant }

pub loop-k-preserved : goal.loop-k-preserved
loop-k-preserved c = edges_more c.args.level c.loop-k.k c.args.node.now.edges c.edge.result c.args.rows.now c.loop-k.rows c.push_edge.new.rows (omega arith) c.edge.ensures c.loop-k.invariant c.in_ok-push_edge.ensures.done
