use Rattle.road_pieces.proofs.Agree.{same_walks}
use Rattle.road_pieces.proofs.laws.walks_agree.Goals as goal

pub returns : goal.returns
returns c = same_walks
