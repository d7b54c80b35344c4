use Rattle.std.proofs.Common.{refl, length}
use Rattle.osm_model.proofs.TextLemmas.{at_err, grew_none}
use Rattle.osm_model.proofs.RelationLemmas.{relations_kept, relations_pushed, row_is}
use Rattle.osm_model.proofs.relations.Relations.append_parts.Goals as goal

pub returns-in_err-extend-clause-err : goal.returns-in_err-extend-clause-err
returns-in_err-extend-clause-err c =
    at_err _ (relations_kept _ _ _ _ _ _ _ c.self.view_is c.self.invariant.kept c.extend.ensures.grew (grew_none _) refl)

pub returns-in_err-extend-2-clause-err : goal.returns-in_err-extend-2-clause-err
returns-in_err-extend-2-clause-err c =
    at_err _ (relations_kept _ _ _ _ _ _ _ c.self.view_is c.self.invariant.kept c.extend.ensures.grew c.extend-2.ensures.grew refl)

pub returns-in_err-push-clause-err : goal.returns-in_err-push-clause-err
returns-in_err-push-clause-err c =
    at_err _ (relations_kept _ _ _ _ _ _ _ c.self.view_is c.self.invariant.kept c.extend.ensures.grew c.extend-2.ensures.grew c.in_err-push.ensures.items)

pub invariant_of-self-2 : goal.invariant_of-self-2
invariant_of-self-2 c =
    relations_pushed _ _ _ _ _ _ _ c.self.inside.rows.items _ _ c.self.view_is c.self.invariant.kept (c.self.invariant.theirs c.if-self.false) c.in_ok-extend.ensures.ok c.in_ok-extend-2.ensures.ok
    (row_is c.self.inside.rows.items _ _ _ (length c.self.inside.tags) _ _ _ (length c.self.inside.members) _ _ c.len-tags_from.ensures c.len.ensures c.len-members_from.ensures c.len-2.ensures c.in_ok-push.ensures.items)
