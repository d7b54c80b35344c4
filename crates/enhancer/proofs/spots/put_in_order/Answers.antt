use Rattle.std.proofs.Common.{rules}
use Rattle.std.proofs.lemmas.List.Sorted.{answers_always, IsNonDecreasingBy-from_sort}
use Rattle.enhancer.specs.declared.spots.Spot.{Spot}
use Rattle.enhancer.proofs.spots.put_in_order.Goals as goal

pub returns-clause-order : goal.returns-clause-order
returns-clause-order c =
    IsNonDecreasingBy-from_sort (λ (s : Spot). s.cell) _ (c.sort_unstable_by_key.ensures.sorted (λ s. s.cell) (answers_always _ _ _ (λ f a r g h. search rules)))
