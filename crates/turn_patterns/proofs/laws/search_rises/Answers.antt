use Rattle.turn_patterns.proofs.RowAnswerLaw.{search_rises}
use Rattle.turn_patterns.proofs.laws.search_rises.Goals as goal

pub returns : goal.returns
returns c = search_rises
