use Rattle.road_pieces.proofs.ListAgree.{lists_walks}
use Rattle.road_pieces.proofs.laws.list_agrees.Goals as goal

pub returns : goal.returns
returns c = lists_walks
