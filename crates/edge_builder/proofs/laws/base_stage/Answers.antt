use Rattle.edge_builder.proofs.StageTiles.{base_stage_is}
use Rattle.edge_builder.proofs.laws.base_stage.Goals as goal

pub returns : goal.returns
returns c = base_stage_is
