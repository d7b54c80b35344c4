use Rattle.std.specs.Prelude.{◌≡◌, true}
use Rattle.std.proofs.Common.{refl, drop}
use Rattle.pattern_search.proofs.ViaLaw.{from_rest, to_rest}
use Rattle.pattern_search.proofs.laws.rests_tell.Goals as goal

pub returns : goal.returns
returns c = λ joins goes_on last way vias none m tests i some low p w. (
  λ run. to_rest (λ p q. joins p q ≡ true) (λ p q. goes_on p q ≡ true) (λ p q. last p q ≡ true) way vias none m tests i p w run some,
  λ rest. from_rest (λ p q. joins p q ≡ true) (λ p q. goes_on p q ≡ true) (λ p q. last p q ≡ true) way vias none m tests (drop i vias) p w rest i some low refl,
)
