use Rattle.std.proofs.Common.{refl}
use Rattle.tile_records.proofs.NodeLaws.{node_back, node_fits, node_spelled, node_whole}
use Rattle.tile_records.proofs.laws.node_law.Goals as goal

pub returns-clause-table : goal.returns-clause-table
returns-clause-table c = refl

pub returns-clause-back : goal.returns-clause-back
returns-clause-back c = λ r fits. node_back c.word_and_fields.ensures.back r fits

pub returns-clause-fits : goal.returns-clause-fits
returns-clause-fits c = λ words are. node_fits words are

pub returns-clause-spelled : goal.returns-clause-spelled
returns-clause-spelled c = λ r fits. node_spelled c.word_and_fields.ensures.below r fits

pub returns-clause-whole : goal.returns-clause-whole
returns-clause-whole c = λ words are node. node_whole c.word_and_fields.ensures.whole words are node
