use Rattle.road_walks.proofs.ListedLaws.{pieces_listed}
use Rattle.road_walks.proofs.laws.pieces_listed.Goals as goal

pub returns : goal.returns
returns c = pieces_listed
