use Rattle.tile_infos.proofs.PassLemmas.{chosen_long, chosen_at, chosen_have, chosen_rise}
use Rattle.tile_infos.proofs.laws.pieces_at_places.Goals as goal

pub returns-clause-count : goal.returns-clause-count
returns-clause-count c = chosen_long

pub returns-clause-each : goal.returns-clause-each
returns-clause-each c = chosen_at

pub returns-clause-entries : goal.returns-clause-entries
returns-clause-entries c = chosen_have

pub returns-clause-rise : goal.returns-clause-rise
returns-clause-rise c = chosen_rise
