use Rattle.tile_bytes.proofs.NodeEdgeLaws.{nodes_section}
use Rattle.tile_bytes.proofs.laws.nodes_law.Goals as goal

pub returns : goal.returns
returns c = λ level tile end. nodes_section c.node_law.ensures.back c.node_law.ensures.fits c.node_law.ensures.spelled c.node_law.ensures.whole level tile end
