use Rattle.std.proofs.Common.{rules}
use Rattle.std.proofs.lemmas.List.Sorted.{answers_always}
use Rattle.tile_walks.specs.Keys.{key_of}
use Rattle.tile_walks.proofs.graph.in_order.Goals as goal

pub returns-clause-sorted : goal.returns-clause-sorted
returns-clause-sorted c = c.sort_unstable_by_key.ensures.sorted (λ t. key_of t.id) (answers_always _ _ _ (λ f a r g h. search rules))
