use Rattle.std.proofs.Common.{arith, Less, Equal, Greater}
use Rattle.std.specs.Cmp.{int_ranked}
use Rattle.enhancer.proofs.Halves.{no_node, all_between, found_at, none_between, only_above, only_below}
use Rattle.enhancer.proofs.readable.node_place.Goals as goal

pub loop-low-init : goal.loop-low-init
loop-low-init c = all_between c.args.rows.now.nodes c.args.osm.now c.nodes_len-high.result c.nodes_len-high.ensures

pub loop-low-preserved-in-Less : goal.loop-low-preserved-in-Less
loop-low-preserved-in-Less c = only_above _ _ _ _ _ no_node c.requires (omega arith) (int_ranked _ _ Less (c.in-Less.ensures no_node)) c.loop-low.invariant

pub loop-low-preserved : goal.loop-low-preserved
loop-low-preserved c = only_below _ _ _ _ _ no_node c.requires (omega arith) (int_ranked _ _ Greater (c.in-Greater.ensures no_node)) c.loop-low.invariant

pub returns-in-Equal : goal.returns-in-Equal
returns-in-Equal c =
    found_at c.args.rows.now.nodes c.args.osm.now _ c.requires (omega (arith, c.loop-low.invariant.inside)) (int_ranked _ _ Equal (c.in-Equal.ensures no_node))

pub returns : goal.returns
returns c = none_between c.args.rows.now.nodes c.args.osm.now _ _ (λ h. absurd (omega (arith, h))) c.loop-low.invariant
