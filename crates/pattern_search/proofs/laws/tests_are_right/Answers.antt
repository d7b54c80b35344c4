use Rattle.std.specs.Prelude.{◌≡◌, true}
use Rattle.pattern_search.proofs.DecideLaw.{tests_are}
use Rattle.pattern_search.proofs.laws.tests_are_right.Goals as goal

pub returns : goal.returns
returns c = λ joins goes_on last way vias none t d. tests_are (λ p q. joins p q ≡ true) (λ p q. goes_on p q ≡ true) (λ p q. last p q ≡ true) way vias none t d
