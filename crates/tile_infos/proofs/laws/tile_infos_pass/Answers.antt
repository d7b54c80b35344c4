use Rattle.tile_infos.proofs.PassLemmas.{infos_pass, texts_pass}
use Rattle.tile_infos.proofs.laws.tile_infos_pass.Goals as goal

pub returns-clause-infos : goal.returns-clause-infos
returns-clause-infos c = infos_pass

pub returns-clause-texts : goal.returns-clause-texts
returns-clause-texts c = texts_pass
