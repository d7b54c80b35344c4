use Rattle.std.proofs.Common.{◌<◌, ap, ◌∙◌, length, get_or, arith}
use Rattle.std.proofs.lemmas.List.{get_or_default}
use Rattle.road_pieces.specs.Lines.{no_node}
use Rattle.road_pieces.proofs.CutLemmas.{junction_yes, junction_no}
use Rattle.road_pieces.proofs.cutting.make_junctions.Goals as goal
use Rattle.road_pieces.proofs.cutting.make_junctions.Goals.{then-flags-place+in_ok-push, else-flags-place}

pub loop-place-preserved : goal.loop-place-preserved
loop-place-preserved c =
    let x = c.args.extract.now in
    let place = c.loop-place.place in
    let inside : place < length x.nodes = omega arith in
    elim c.if-flags-place.branch [
      | then-flags-place+in_ok-push w ↦
          ap (λ v. v.items) w.junctions-is ∙ junction_yes x c.args.flags.now place w.at.result c.loop-place.junctions.items _ w.junction_of.result c.requires inside w.at.ensures w.if-flags-place.true c.loop-place.invariant w.junction_of.ensures w.in_ok-push.ensures.items
      | else-flags-place w ↦
          let node = get_or x.nodes place no_node in
          ap (λ v. v.items) w.junctions-is ∙ junction_no x c.args.flags.now place node c.loop-place.junctions.items c.requires inside (get_or_default x.nodes place no_node node inside) w.if-flags-place.false c.loop-place.invariant
    ]
