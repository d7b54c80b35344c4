use Rattle.std.proofs.Common.{ap, ◌∙◌, sym}
use Rattle.osm_restrictions.specs.Keys.{deciding_value, is_conditional}
use Rattle.osm_restrictions.proofs.KindLemmas.{turn_of_known}
use Rattle.osm_restrictions.proofs.turn.turn_of.Goals as goal

pub returns-in-Some-kind_of : goal.returns-in-Some-kind_of
returns-in-Some-kind_of c =
    turn_of_known c.args.relation.now c.in-Some.value.now c.in-Some-kind_of.kind c.turn_of_kind.result
    (ap is_conditional (sym c.tags-tags.ensures) ∙ sym c.is_conditional.ensures ∙ c.if-is_conditional.false)
    (c.in-Some.ensures ∙ ap deciding_value c.tags-tags.ensures)
    c.in-Some-kind_of.ensures
    c.turn_of_kind.ensures
