use Rattle.turn_patterns.proofs.RowAnswerLaw.{answers}
use Rattle.turn_patterns.proofs.laws.search_answers.Goals as goal

pub returns : goal.returns
returns c = answers c.words_agree.ensures
