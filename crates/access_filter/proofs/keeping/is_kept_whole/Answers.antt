use Rattle.std.proofs.Common.{sym, ap, ltb, arith, ◌∙◌}
use Rattle.access_filter.proofs.NodesKept.{tile_whole, nodes_whole, nodes_begin}
use Rattle.access_filter.proofs.keeping.is_kept_whole.Goals as goal

pub loop-i-init : goal.loop-i-init
loop-i-init c = nodes_begin c.args.modes

pub loop-i-preserved : goal.loop-i-preserved
loop-i-preserved c =
    nodes_whole c.args.modes c.loop-i.i c.args.rows.now.nodes c.node.result (omega arith) c.node.ensures (c.is_kept_node.ensures c.if-not-is_kept_node.false) c.loop-i.invariant

pub returns : goal.returns
returns c =
    λ h. tile_whole c.args.modes c.loop-i.i c.args.rows.now (omega (arith, c.loop-i-test.false, c.nodes_len-i-end.ensures)) c.loop-i.invariant (ap (ltb 0) (sym c.nodes_len.ensures) ∙ h)
