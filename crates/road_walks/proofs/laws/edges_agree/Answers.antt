use Rattle.road_walks.proofs.EdgeAgree.{same_edges}
use Rattle.road_walks.proofs.laws.edges_agree.Goals as goal

pub returns : goal.returns
returns c = same_edges
