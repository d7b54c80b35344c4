use Rattle.turn_patterns.proofs.CountLaw.{row_numbers}
use Rattle.turn_patterns.proofs.laws.row_numbers_tell.Goals as goal

pub returns : goal.returns
returns c = row_numbers c.words_agree.ensures
