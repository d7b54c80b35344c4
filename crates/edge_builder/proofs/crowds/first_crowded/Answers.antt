use Rattle.std.proofs.Common.{◌∙◌, ap, Some, arith}
use Rattle.edge_builder.proofs.JunctionLemmas.{no_junction}
use Rattle.edge_builder.proofs.CrowdLemmas.{not_crowded, is_the_first}
use Rattle.edge_builder.proofs.crowds.first_crowded.Goals as goal

pub returns-then-count-gt-MOST_EDGES : goal.returns-then-count-gt-MOST_EDGES
returns-then-count-gt-MOST_EDGES c pieces from =
    ap Some c.crowd.ensures
    ∙ is_the_first c.args.junctions.now c.args.edges.now c.loop-i.i c.count-count.result no_junction c.requires.rise c.loop-i-test.true c.count-count.ensures (omega arith) c.loop-i.invariant pieces from

pub loop-i-preserved : goal.loop-i-preserved
loop-i-preserved c = not_crowded c.args.junctions.now c.args.edges.now c.loop-i.i c.count-count.result no_junction c.requires.rise c.loop-i-test.true c.count-count.ensures (omega arith) c.loop-i.invariant
