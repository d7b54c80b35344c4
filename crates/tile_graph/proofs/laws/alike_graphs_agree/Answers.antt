use Rattle.tile_graph.proofs.AlikeLaw.{alike_walks}
use Rattle.tile_graph.proofs.laws.alike_graphs_agree.Goals as goal

pub returns : goal.returns
returns c = alike_walks
