use Rattle.tile_bytes.proofs.NodeEdgeLaws.{edges_section}
use Rattle.tile_bytes.proofs.laws.edges_law.Goals as goal

pub returns : goal.returns
returns c = λ level end. edges_section c.edge_law.ensures.back c.edge_law.ensures.fits c.edge_law.ensures.spelled c.edge_law.ensures.whole level end
