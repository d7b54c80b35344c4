use Rattle.turn_patterns.proofs.FoundLaw.{found_tells}
use Rattle.turn_patterns.proofs.laws.found_tells.Goals as goal

pub returns : goal.returns
returns c = found_tells
