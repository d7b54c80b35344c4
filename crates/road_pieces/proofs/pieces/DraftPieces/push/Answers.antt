use Rattle.std.proofs.Common.{◌≡◌, ◌++◌, ◌∷◌, [], sym, ◌∙◌, ap, subst, map, arith, rules}
use Rattle.std.specs.Prelude.{All}
use Rattle.fixed_geo.specs.Place.{IsPlace}
use Rattle.road_pieces.specs.Parts.{point_at}
use Rattle.road_pieces.specs.Rows.{course_cm}
use Rattle.road_pieces.specs.PieceRows.{headed, Drafted}
use Rattle.osm_model.proofs.TextLemmas.{grew_none}
use Rattle.road_pieces.proofs.NameLemmas.{longer}
use Rattle.road_pieces.proofs.PartLemmas.{course_placed}
use Rattle.road_pieces.proofs.PieceLemmas.{piece_behind, within_kept, within_more, tail_is}
use Rattle.road_pieces.proofs.pieces.DraftPieces.push.Goals as goal

pub length_of-cm-requires-clause-placed : goal.length_of-cm-requires-clause-placed
length_of-cm-requires-clause-placed c =
    subst (All IsPlace) (sym (tail_is c.self.inside.points.items (map (point_at c.args.nodes.now) c.args.places.now) c.add_course.new.points.items _ c.len-shape_from.result (search rules) c.in_ok-add_course.ensures.course c.deref.ensures.value))
    (course_placed c.args.nodes.now c.args.places.now c.requires.placed c.requires.inside)

pub invariant_of-self-in_err-push : goal.invariant_of-self-in_err-push
invariant_of-self-in_err-push c = record {
  within = within_kept _ _ _ _ _ _ c.self.invariant.within c.add_course.ensures.grew (grew_none _) c.in_err-push.ensures.items;
  rises = c.self.invariant.rises;
  inside = c.self.invariant.inside;
}

pub invariant_of-self-2 : goal.invariant_of-self-2
invariant_of-self-2 c = record {
  within = within_more _ _ _ _ _ _ _ c.self.invariant.within c.add_course.ensures.grew (grew_none _) c.in_ok-push.ensures.items
      (record {
        shape_rises = omega (arith, c.len-shape_from.ensures, c.len.ensures, longer _ _ c.add_course.ensures.grew);
        shape_inside = omega (arith, c.len.ensures);
        names_rise = c.self.invariant.rises;
        names_inside = c.self.invariant.inside;
      });
  rises = c.self.invariant.rises;
  inside = c.self.invariant.inside;
}

pub returns-clause-done : goal.returns-clause-done
returns-clause-done c =
    let shape = map (point_at c.args.nodes.now) c.args.places.now in
    let cm : c.length_of-cm.result ≡ course_cm shape =
    c.length_of-cm.ensures ∙ ap course_cm (tail_is c.self.inside.points.items shape c.add_course.new.points.items _ c.len-shape_from.result (search rules) c.in_ok-add_course.ensures.course c.deref.ensures.value) in
    piece_behind _ c.self.inside.points.items c.add_course.new.points.items shape c.self.inside.names _ _ _ _ _ _ _ _ _ (ap (λ (d : Drafted). d.done) c.self.view_is) c.self.invariant.within c.in_ok-add_course.ensures.course (search rules) (search rules) (ap (λ (d : Drafted). d.names) c.self.view_is) c.in_ok-push.ensures.items ∙
    ap (λ n. c.args.self.now.done ++ headed c.args.head shape n c.args.self.now.names ∷ []) cm
