use Rattle.std.proofs.Common.{rules}
use Rattle.std.proofs.lemmas.List.Sorted.{answers_always}
use Rattle.osm_model.proofs.RelationLemmas.{rows_moved, rows_sorted, relations_other}
use Rattle.osm_model.proofs.relations.Relations.sort_by_id.Goals as goal

pub invariant_of-self : goal.invariant_of-self
invariant_of-self c = relations_other _ _ _ _ _ c.self.invariant c.sort_unstable_by_key.ensures.permutation

pub returns-clause-permutation : goal.returns-clause-permutation
returns-clause-permutation c = rows_moved _ _ _ _ _ c.self.view_is c.sort_unstable_by_key.ensures.permutation

pub returns-clause-sorted : goal.returns-clause-sorted
returns-clause-sorted c =
    rows_sorted _ _ _ (c.sort_unstable_by_key.ensures.sorted (λ row. row.id) (answers_always _ _ _ (λ f a r g h. search rules)))
