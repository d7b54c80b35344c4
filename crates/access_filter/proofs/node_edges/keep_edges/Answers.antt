use Rattle.std.proofs.Common.{arith}
use Rattle.access_filter.proofs.EdgesPut.{none_put, edges_more, some_stay}
use Rattle.access_filter.proofs.node_edges.keep_edges.Goals as goal

pub loop-k-init : goal.loop-k-init
loop-k-init c = none_put c.args.kept.now

pub keep_edge-requires : goal.keep_edge-requires
keep_edge-requires c = record { some = some_stay c.args.kept.now c.loop-k.kept _ c.requires.some c.loop-k.invariant }

pub loop-k-preserved : goal.loop-k-preserved
loop-k-preserved c = edges_more c.args.modes c.loop-k.k c.args.node.now.edges c.edge.result c.args.kept.now c.loop-k.kept c.keep_edge.new.kept (omega arith) c.edge.ensures c.loop-k.invariant c.in_ok-keep_edge.ensures.done
