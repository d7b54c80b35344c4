use Rattle.std.proofs.Common.{sym, ap, ltb, arith, ◌∙◌}
use Rattle.access_filter.proofs.NodesKept.{node_whole}
use Rattle.access_filter.proofs.node_edges.is_kept_node.Goals as goal

pub returns : goal.returns
returns c =
    λ h. node_whole c.args.modes c.loop-k.k c.args.node.now (omega (arith, c.loop-k-test.false, c.edges_len-k-end.ensures)) c.loop-k.invariant (ap (ltb 0) (sym c.edges_len.ensures) ∙ h)
