use Rattle.std.proofs.Common.{arith}
use Rattle.bounded_flood.specs.Flood.{seen_all}
use Rattle.enhancer.specs.Graph.{same_node, ends_but}
use Rattle.enhancer.proofs.SeenEnds.{too_many}
use Rattle.enhancer.proofs.looks.see_ends.Goals as goal

pub returns-then-not-see_edge-clause-full : goal.returns-then-not-see_edge-clause-full
returns-then-not-see_edge-clause-full c = λ _.
    too_many c.loop-k.seen.items (seen_all same_node c.args.seen.now.items (ends_but c.args.left c.args.node.now.edges)) c.args.node.now.edges c.loop-k.k c.args.left c.edge-edge.result
    (omega arith) c.edge-edge.ensures (c.see_edge.ensures.full c.if-not-see_edge.true) c.loop-k.invariant
