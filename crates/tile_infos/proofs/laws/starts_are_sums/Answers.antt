use Rattle.tile_infos.proofs.StartLemmas.{starts_length, start_at}
use Rattle.tile_infos.proofs.laws.starts_are_sums.Goals as goal

pub returns-clause-count : goal.returns-clause-count
returns-clause-count c = starts_length

pub returns-clause-each : goal.returns-clause-each
returns-clause-each c = start_at
