use Rattle.bit_words.proofs.Parts.{same, below, above}
use Rattle.bit_words.proofs.laws.set_and_get.Goals as goal

pub returns-clause-same : goal.returns-clause-same
returns-clause-same c = λ word at width value small. same word at width value small

pub returns-clause-below : goal.returns-clause-below
returns-clause-below c = λ word at width value i n small le. below word at width value small i n le

pub returns-clause-above : goal.returns-clause-above
returns-clause-above c = λ word at width value i n small le. above word at width value small i n le
