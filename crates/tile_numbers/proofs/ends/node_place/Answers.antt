use Rattle.std.proofs.Common.{arith, Less, Equal, Greater}
use Rattle.std.specs.Cmp.{int_ranked}
use Rattle.tile_numbers.specs.LookUps.{no_work_node}
use Rattle.tile_numbers.proofs.Halves.{all_between, found_at, none_between, only_above, only_below}
use Rattle.tile_numbers.proofs.ends.node_place.Goals as goal

pub loop-low-init : goal.loop-low-init
loop-low-init c = all_between c.args.rows.now.nodes c.args.osm.now c.nodes_len-high.result c.nodes_len-high.ensures

pub loop-low-preserved-in-Less : goal.loop-low-preserved-in-Less
loop-low-preserved-in-Less c = only_above _ _ _ _ _ no_work_node c.requires (omega arith) (int_ranked _ _ Less (c.in-Less.ensures no_work_node)) c.loop-low.invariant

pub loop-low-preserved : goal.loop-low-preserved
loop-low-preserved c = only_below _ _ _ _ _ no_work_node c.requires (omega arith) (int_ranked _ _ Greater (c.in-Greater.ensures no_work_node)) c.loop-low.invariant

pub returns-in-Equal-clause-is : goal.returns-in-Equal-clause-is
returns-in-Equal-clause-is c =
    found_at c.args.rows.now c.args.osm.now _ no_work_node c.requires (omega (arith, c.loop-low.invariant.inside)) (int_ranked _ _ Equal (c.in-Equal.ensures no_work_node))

pub returns-clause-is : goal.returns-clause-is
returns-clause-is c = none_between c.args.rows.now c.args.osm.now _ _ c.nodes_len-2.result (λ h. absurd (omega (arith, h))) c.loop-low.invariant c.nodes_len-2.ensures
