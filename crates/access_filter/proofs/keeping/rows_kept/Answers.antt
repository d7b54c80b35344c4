use Rattle.std.proofs.Common.{arith}
use Rattle.access_filter.proofs.NodesKept.{rows_begin, rows_more, rows_all}
use Rattle.access_filter.proofs.keeping.rows_kept.Goals as goal

pub loop-i-preserved : goal.loop-i-preserved
loop-i-preserved c = rows_more c.args.modes c.loop-i.i c.args.rows.now c.loop-i.kept c.keep_node.new.kept c.node.result (omega arith) c.node.ensures c.loop-i.invariant c.in_ok-keep_node.ensures

pub returns : goal.returns
returns c = rows_all c.args.modes c.loop-i.i c.args.rows.now c.loop-i.kept (omega arith) c.loop-i.invariant

pub loop-i-init : goal.loop-i-init
loop-i-init c = rows_begin c.args.modes c.level.result c.tile.result c.args.rows.now c.new-kept.result c.new-kept.ensures c.level.ensures c.tile.ensures
