use Rattle.road_walks.proofs.PieceMatchLaw.{pieces_tell}
use Rattle.road_walks.proofs.laws.pieces_tell_patterns.Goals as goal

pub returns : goal.returns
returns c = pieces_tell
