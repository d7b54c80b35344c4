use Rattle.way_tags.proofs.OpenNodes.{open_nodes}
use Rattle.way_tags.proofs.law.open_node_law.Goals as goal

pub returns : goal.returns
returns c = open_nodes
