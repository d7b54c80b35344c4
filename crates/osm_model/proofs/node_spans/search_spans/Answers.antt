use Rattle.std.proofs.Common.{arith}
use Rattle.osm_model.proofs.NodeLemmas.{only_above, only_not_above}
use Rattle.osm_model.proofs.node_spans.search_spans.Goals as goal

pub loop-low-preserved-then-at-place-2 : goal.loop-low-preserved-then-at-place-2
loop-low-preserved-then-at-place-2 c =
    only_above _ _ _ _ _ _ c.requires.rise c.loop-low.invariant (omega (arith, c.loop-low-test.true)) c.if-at-place-2.true

pub loop-low-preserved : goal.loop-low-preserved
loop-low-preserved c =
    only_not_above _ _ _ _ _ _ c.requires.rise c.loop-low.invariant (omega arith) (omega (arith, c.loop-low-test.true)) c.if-at-place.false c.if-at-place-2.false
