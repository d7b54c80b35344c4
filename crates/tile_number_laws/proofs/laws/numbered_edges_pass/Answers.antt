use Rattle.tile_number_laws.proofs.EdgesPass.{edges_pass}
use Rattle.tile_number_laws.proofs.laws.numbered_edges_pass.Goals as goal

pub returns : goal.returns
returns c = edges_pass
