use Rattle.tile_number_laws.proofs.NodesPass.{nodes_pass}
use Rattle.tile_number_laws.proofs.laws.numbered_nodes_pass.Goals as goal

pub returns : goal.returns
returns c = nodes_pass
