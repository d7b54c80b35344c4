use Rattle.turn_patterns.proofs.FoundLaw.{one_found}
use Rattle.turn_patterns.proofs.laws.one_found.Goals as goal

pub returns : goal.returns
returns c = one_found
