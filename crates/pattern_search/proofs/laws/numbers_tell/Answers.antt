use Rattle.std.specs.Prelude.{◌≡◌, true}
use Rattle.pattern_search.proofs.NumberLaw.{first_most, run_most}
use Rattle.pattern_search.proofs.laws.numbers_tell.Goals as goal

pub returns : goal.returns
returns c = λ joins goes_on last way vias none t tests line lines cap capped p. (
  λ left low. run_most (λ p q. joins p q ≡ true) (λ p q. goes_on p q ≡ true) (λ p q. last p q ≡ true) way vias none t tests line lines cap capped left low p,
  λ more. first_most (λ p q. joins p q ≡ true) (λ p q. goes_on p q ≡ true) (λ p q. last p q ≡ true) way vias none t tests line lines cap capped more p,
)
