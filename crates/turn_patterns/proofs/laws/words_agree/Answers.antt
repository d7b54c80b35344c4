use Rattle.turn_patterns.proofs.RowWordLaw.{same_words}
use Rattle.turn_patterns.proofs.laws.words_agree.Goals as goal

pub returns : goal.returns
returns c = same_words c.pieces_tell_patterns.ensures c.readings_agree.ensures
