use Rattle.bit_words.proofs.Words.{back, whole, below, fit}
use Rattle.bit_words.proofs.laws.word_and_fields.Goals as goal

pub returns-clause-back : goal.returns-clause-back
returns-clause-back c = λ fields fits. back fields fits

pub returns-clause-whole : goal.returns-clause-whole
returns-clause-whole c = λ widths word lt. whole widths word lt

pub returns-clause-below : goal.returns-clause-below
returns-clause-below c = λ fields fits. below fields fits

pub returns-clause-fit : goal.returns-clause-fit
returns-clause-fit c = λ widths word. fit widths word
