use Rattle.std.proofs.Common.{◌<◌, ◌+◌, ◌++◌, ap, ◌∙◌, length, arith}
use Rattle.road_pieces.specs.Lines.{Line}
use Rattle.road_pieces.specs.Parts.{line_rows}
use Rattle.road_pieces.proofs.NameLemmas.{named_few}
use Rattle.road_pieces.proofs.PartLemmas.{cut_all, cut_here, cut_past, cut_on, stop_is, part_inside}
use Rattle.road_pieces.proofs.parts.cut_line.Goals as goal
use Rattle.road_pieces.proofs.parts.cut_line.Goals.{then-flags-places+in_ok-add_piece, else-flags-places}

pub name-requires : goal.name-requires
name-requires c = record { room = omega (arith, c.requires.names_room, named_few _ _ c.in_ok-names.ensures) }

pub add_piece-requires-clause-inside : goal.add_piece-requires-clause-inside
add_piece-requires-clause-inside c =
    part_inside (λ p. p < length c.args.extract.now.nodes) c.args.line.now.places.now c.loop-to.from (c.loop-to.to + 1) (omega arith) c.requires.sound.places

pub loop-to-preserved : goal.loop-to-preserved
loop-to-preserved c =
    let x = c.args.extract.now in
    let line : Line = record { way = c.args.line.now.way; number = c.args.line.now.number; places = c.args.line.now.places.now } in
    elim c.if-flags-places.branch [
      | then-flags-places+in_ok-add_piece w ↦
          cut_on x line c.at-way.result c.name.new.self w.add_piece.new.pieces c.if-flags-places.pieces (c.loop-to.piece + 1) c.loop-to.to c.if-flags-places.piece c.if-flags-places.from (c.loop-to.to + 1) w.pieces-is w.piece-is w.from-is
          (cut_here x line c.at-way.result c.name.new.self c.loop-to.pieces w.add_piece.new.pieces c.loop-to.piece c.loop-to.from c.loop-to.to (omega arith)
          (stop_is x c.args.flags.now _ _ c.requires.flagged (c.requires.sound.places c.loop-to.to 0 (omega arith)) w.if-flags-places.true)
          w.in_ok-add_piece.ensures.done w.in_ok-add_piece.ensures.points w.add_piece.ensures.named w.add_piece.ensures.names_stay c.loop-to.invariant)
      | else-flags-places w ↦
          cut_on x line c.at-way.result c.name.new.self c.loop-to.pieces c.if-flags-places.pieces c.loop-to.piece c.loop-to.from c.if-flags-places.piece c.if-flags-places.from (c.loop-to.to + 1) w.pieces-is w.piece-is w.from-is
          (cut_past x line c.at-way.result c.name.new.self c.loop-to.pieces c.loop-to.piece c.loop-to.from c.loop-to.to (omega arith)
          (stop_is x c.args.flags.now _ _ c.requires.flagged (c.requires.sound.places c.loop-to.to 0 (omega arith)) w.if-flags-places.false)
          c.loop-to.invariant)
    ]

pub returns-clause-done : goal.returns-clause-done
returns-clause-done c =
    let line : Line = record { way = c.args.line.now.way; number = c.args.line.now.number; places = c.args.line.now.places.now } in
    cut_all c.args.extract.now line c.at-way.result _ _ _ _ _ (omega arith) c.requires.sound c.at-way.ensures c.loop-to.invariant ∙ ap (λ l. l ++ line_rows c.args.extract.now line) c.name.ensures.done

pub returns-clause-points : goal.returns-clause-points
returns-clause-points c =
    omega (arith, c.loop-to.invariant.points, c.loop-to.invariant.pieces, c.loop-to.invariant.inside, c.name.ensures.points)

pub returns-clause-named : goal.returns-clause-named
returns-clause-named c =
    omega (arith, c.loop-to.invariant.named, c.in_ok-name.ensures.named, named_few _ _ c.in_ok-names.ensures)
