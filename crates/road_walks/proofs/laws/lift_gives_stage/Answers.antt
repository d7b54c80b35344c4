use Rattle.road_walks.proofs.StageLaws.{lifts_stage}
use Rattle.road_walks.proofs.laws.lift_gives_stage.Goals as goal

pub returns : goal.returns
returns c = lifts_stage
