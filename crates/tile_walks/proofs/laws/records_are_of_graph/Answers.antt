use Rattle.tile_walks.proofs.RecordsLaw.{nodes_law, edges_law}
use Rattle.tile_walks.proofs.laws.records_are_of_graph.Goals as goal

pub returns : goal.returns
returns c = λ tiles all. (nodes_law tiles, edges_law tiles all)
