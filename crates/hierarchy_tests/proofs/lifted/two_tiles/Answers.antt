use Rattle.std.proofs.Common.{◌≡◌, ◌∙◌, ◌++◌, ◌∷◌, [], ap}
use Rattle.hierarchy_tests.specs.Ids.{ids_of}
use Rattle.hierarchy_tests.proofs.IdLemmas.{own_nodes}
use Rattle.hierarchy_tests.proofs.lifted.two_tiles.Goals as goal

pub returns : goal.returns
returns c =
    let one : c.push.new.self.items ≡ c.in_ok-new.field-0 ∷ [] = c.in_ok-push.ensures.items ∙ ap (λ l. l ++ c.in_ok-new.field-0 ∷ []) c.new-tiles.ensures.items in
    own_nodes c.push-2.new.self.items c.in_ok-new.field-0 c.in_ok-new-2.field-0 (c.in_ok-push-2.ensures.items ∙ ap (λ l. l ++ c.in_ok-new-2.field-0 ∷ []) one)
    (ap ids_of c.in_ok-new.ensures ∙ c.in_ok-first.ensures) (ap ids_of c.in_ok-new-2.ensures ∙ c.in_ok-second.ensures)
