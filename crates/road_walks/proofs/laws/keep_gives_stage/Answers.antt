use Rattle.road_walks.proofs.StageLaws.{keeps_stage}
use Rattle.road_walks.proofs.laws.keep_gives_stage.Goals as goal

pub returns : goal.returns
returns c = keeps_stage
