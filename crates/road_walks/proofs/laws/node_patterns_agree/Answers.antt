use Rattle.road_walks.proofs.NodePatternLaw.{same_node_patterns}
use Rattle.road_walks.proofs.laws.node_patterns_agree.Goals as goal

pub returns : goal.returns
returns c = same_node_patterns
