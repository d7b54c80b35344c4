use Rattle.pattern_search.proofs.RenameLaw.{renamed_words}
use Rattle.pattern_search.proofs.laws.renamed_words.Goals as goal

pub returns : goal.returns
returns c = renamed_words
