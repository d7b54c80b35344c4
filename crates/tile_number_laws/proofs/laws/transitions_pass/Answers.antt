use Rattle.tile_number_laws.proofs.OthersPass.{others_pass}
use Rattle.tile_number_laws.proofs.laws.transitions_pass.Goals as goal

pub returns : goal.returns
returns c = others_pass
