use Rattle.std.proofs.Common.{refl, sym, ap, ◌∙◌, ◌++◌, ◌∷◌, [], rules, length, w32, w64, FitsSigned}
use Rattle.std.proofs.lemmas.Int.{to_z-of_z}
use Rattle.std.proofs.lemmas.List.{nil_from_length}
use Rattle.osm_model.specs.NodeRows.{node_of}
use Rattle.std.proofs.lemmas.Bool.{eqb-true}
use Rattle.osm_model.proofs.TextLemmas.{at_err}
use Rattle.osm_model.proofs.NodeLemmas.{bare_behind, node_behind, nodes_kept, nodes_back, spans_back, rows_short, rows_bare, rows_more, span_is, node_parts}
use Rattle.osm_model.proofs.nodes.Nodes.append_parts.Goals as goal

pub returns-then-is_empty-clause-ok : goal.returns-then-is_empty-clause-ok
returns-then-is_empty-clause-ok c =
    let id : FitsSigned w64 c.args.id = search rules in
    let lat : FitsSigned w32 c.args.lat = search rules in
    let lon : FitsSigned w32 c.args.lon = search rules in
    bare_behind _ _ c.args.tags.now _ _ _ _ c.self.view_is c.self.invariant.kept (nil_from_length _ (eqb-true _ _ (sym c.is_empty.ensures ∙ c.if-is_empty.true))) c.in_ok-push.ensures.items ∙
    (ap (λ s. c.args.self.now ++ node_of c.args.tags.now s ∷ []) c.spot_of-spot.ensures ∙
    node_parts c.args.self.now c.args.tags.now _ _ _ c.args.id c.args.lat c.args.lon (to_z-of_z w64 _ id) (to_z-of_z w32 _ lat) (to_z-of_z w32 _ lon))

pub returns-in_err-extend-clause-err : goal.returns-in_err-extend-clause-err
returns-in_err-extend-clause-err c =
    at_err _ (nodes_kept _ _ _ _ _ _ c.self.view_is c.self.invariant.kept c.extend.ensures.grew refl)

pub returns-in_err-push-2-clause-err : goal.returns-in_err-push-2-clause-err
returns-in_err-push-2-clause-err c =
    at_err _ (nodes_kept _ _ _ _ _ _ c.self.view_is c.self.invariant.kept c.extend.ensures.grew c.in_err-push-2.ensures.items)

pub invariant_of-self-then-is_empty : goal.invariant_of-self-then-is_empty
invariant_of-self-then-is_empty c =
    rows_bare _ _ c.args.tags.now _ _ _ _ _ c.self.view_is c.self.invariant (nil_from_length _ (eqb-true _ _ (sym c.is_empty.ensures ∙ c.if-is_empty.true))) c.in_ok-push.ensures.items c.requires.its_place

pub invariant_of-self-in_err-extend : goal.invariant_of-self-in_err-extend
invariant_of-self-in_err-extend c = rows_short _ _ _ _ _ _ c.self.invariant.kept c.extend.ensures.grew refl refl

pub invariant_of-self-in_err-push-2 : goal.invariant_of-self-in_err-push-2
invariant_of-self-in_err-push-2 c = rows_short _ _ _ _ _ _ c.self.invariant.kept c.extend.ensures.grew refl c.in_err-push-2.ensures.items

pub invariant_of-self-in-Ok : goal.invariant_of-self-in-Ok
invariant_of-self-in-Ok c =
    rows_more _ _ _ _ _ _ _ _ _ c.self.view_is c.self.invariant.kept (c.self.invariant.theirs c.if-self.false) c.in_ok-extend.ensures.ok c.in_ok-push-2.ensures.items
    (span_is _ _ _ (length c.self.inside.spots.items) _ _ _ _ (search rules) c.len-from.ensures c.len.ensures c.in-Ok.ensures.items)
    c.requires.its_place

pub returns-in-Ok-clause-ok : goal.returns-in-Ok-clause-ok
returns-in-Ok-clause-ok c =
    let id : FitsSigned w64 c.args.id = search rules in
    let lat : FitsSigned w32 c.args.lat = search rules in
    let lon : FitsSigned w32 c.args.lon = search rules in
    node_behind _ _ _ _ _ _ _ _ _ c.self.view_is c.self.invariant.kept c.in_ok-extend.ensures.ok c.in_ok-push-2.ensures.items
    (span_is _ _ _ (length c.self.inside.spots.items) _ _ _ _ (search rules) c.len-from.ensures c.len.ensures c.in-Ok.ensures.items) ∙
    (ap (λ s. c.args.self.now ++ node_of c.args.tags.now s ∷ []) c.spot_of-spot.ensures ∙
    node_parts c.args.self.now c.args.tags.now _ _ _ c.args.id c.args.lat c.args.lon (to_z-of_z w64 _ id) (to_z-of_z w32 _ lat) (to_z-of_z w32 _ lon))

pub returns-in-Err-clause-err : goal.returns-in-Err-clause-err
returns-in-Err-clause-err c =
    nodes_back _ _ _ _ _ c.self.inside.spots.items _ _ _ _ c.self.view_is c.self.invariant.kept c.extend.ensures.grew c.in-Err.ensures.items c.in_ok-push-2.ensures.items (search rules) c.truncate.ensures.items

pub invariant_of-self-in-Err : goal.invariant_of-self-in-Err
invariant_of-self-in-Err c = record {
  kept = spans_back _ _ _ _ c.self.inside.spots.items _ _ _ _ c.self.invariant.kept c.extend.ensures.grew c.in-Err.ensures.items c.in_ok-push-2.ensures.items (search rules) c.truncate.ensures.items;
  theirs = λ e. absurd (cc e);
}
