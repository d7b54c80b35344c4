use Rattle.std.proofs.Common.{◌∙◌, ap, length, sym}
use Rattle.osm_objects.proofs.Lengths.{sums-length, even-lengths, each-length}
use Rattle.osm_objects.proofs.relations.read_relation.Goals as goal

pub read_members-requires-clause-ids : goal.read_members-requires-clause-ids
read_members-requires-clause-ids c =
    ap (λ l. length l) c.deref.ensures.value ∙ sums-length _ _ _ c.in_ok-sum_up.ensures ∙ sym (even-lengths _ _ _ c.in_ok-check_even-2.ensures)

pub read_members-requires-clause-kinds : goal.read_members-requires-clause-kinds
read_members-requires-clause-kinds c =
    ap (λ l. length l) c.deref-2.ensures.value ∙ each-length _ _ _ c.in_ok-read_kinds.ensures ∙ sym (even-lengths _ _ _ c.in_ok-check_even-3.ensures)
