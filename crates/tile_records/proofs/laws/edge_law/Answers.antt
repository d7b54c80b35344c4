use Rattle.std.proofs.Common.{refl}
use Rattle.tile_records.proofs.EdgeLaws.{edge_back, edge_fits, edge_spelled, edge_whole}
use Rattle.tile_records.proofs.laws.edge_law.Goals as goal

pub returns-clause-table : goal.returns-clause-table
returns-clause-table c = refl

pub returns-clause-back : goal.returns-clause-back
returns-clause-back c = λ r fits. edge_back c.word_and_fields.ensures.back r fits

pub returns-clause-fits : goal.returns-clause-fits
returns-clause-fits c = λ words are edge. edge_fits words edge

pub returns-clause-spelled : goal.returns-clause-spelled
returns-clause-spelled c = λ r fits. edge_spelled c.word_and_fields.ensures.below c.word_and_fields.ensures.back r fits

pub returns-clause-whole : goal.returns-clause-whole
returns-clause-whole c = λ words are edge. edge_whole c.word_and_fields.ensures.whole words are edge
