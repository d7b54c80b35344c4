use Rattle.turn_patterns.proofs.WaysFoundLaw.{ways_are_found}
use Rattle.turn_patterns.proofs.laws.ways_answer.Goals as goal

pub returns : goal.returns
returns c = ways_are_found c.words_agree.ensures
