use Rattle.road_walks.proofs.StageLaws.{stages_alike}
use Rattle.road_walks.proofs.laws.stage_of_edges.Goals as goal

pub returns : goal.returns
returns c = stages_alike
