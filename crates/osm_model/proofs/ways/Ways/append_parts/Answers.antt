use Rattle.std.proofs.Common.{refl, length, rules}
use Rattle.osm_model.proofs.TextLemmas.{at_err, grew_none, grew_same, grew_by}
use Rattle.osm_model.proofs.WayLemmas.{ways_kept, ways_pushed, row_is}
use Rattle.osm_model.proofs.ways.Ways.append_parts.Goals as goal

pub returns-in_err-extend-clause-err : goal.returns-in_err-extend-clause-err
returns-in_err-extend-clause-err c =
    at_err _ (ways_kept _ _ _ _ _ _ _ c.self.view_is c.self.invariant.kept c.extend.ensures.grew (grew_none _) refl)

pub returns-in_err-extend_from_slice-clause-err : goal.returns-in_err-extend_from_slice-clause-err
returns-in_err-extend_from_slice-clause-err c =
    at_err _ (ways_kept _ _ _ _ _ _ _ c.self.view_is c.self.invariant.kept c.extend.ensures.grew (grew_same _ _ c.in_err-extend_from_slice.ensures.items) refl)

pub returns-in_err-push-clause-err : goal.returns-in_err-push-clause-err
returns-in_err-push-clause-err c =
    at_err _ (ways_kept _ _ _ _ _ _ _ c.self.view_is c.self.invariant.kept c.extend.ensures.grew (grew_by _ _ _ c.in_ok-extend_from_slice.ensures.items) c.in_err-push.ensures.items)

pub invariant_of-self-2 : goal.invariant_of-self-2
invariant_of-self-2 c =
    ways_pushed _ _ _ _ _ _ _ c.self.inside.rows.items _ _ c.self.view_is c.self.invariant.kept (c.self.invariant.theirs c.if-self.false) c.in_ok-extend.ensures.ok c.in_ok-extend_from_slice.ensures.items
    (row_is c.self.inside.rows.items _ _ _ (length c.self.inside.tags) _ _ _ (length c.self.inside.refs.items) _ _ c.len-tags_from.ensures c.len.ensures (search rules) (search rules) c.in_ok-push.ensures.items)
