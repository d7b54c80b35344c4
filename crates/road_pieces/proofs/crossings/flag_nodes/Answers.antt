use Rattle.std.proofs.Common.{◌<◌, ◌∙◌, length, arith}
use Rattle.road_pieces.proofs.MarkLemmas.{flag_more}
use Rattle.road_pieces.proofs.crossings.flag_nodes.Goals as goal

pub loop-place-preserved : goal.loop-place-preserved
loop-place-preserved c =
    let x = c.args.extract.now in
    let place = c.loop-place.place in
    let inside : place < length x.nodes = omega arith in
    c.in_ok-push.ensures.items ∙ flag_more x place _ c.at.result _ _ inside c.at.ensures (c.requires.counts place inside) c.is_crossing.ensures c.loop-place.invariant
