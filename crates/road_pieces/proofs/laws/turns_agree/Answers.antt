use Rattle.road_pieces.proofs.Agree.{same_turns}
use Rattle.road_pieces.proofs.laws.turns_agree.Goals as goal

pub returns : goal.returns
returns c = same_turns
