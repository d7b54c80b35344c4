use Rattle.road_walks.proofs.ListedLaws.{own_indexes}
use Rattle.road_walks.proofs.laws.own_indexes.Goals as goal

pub returns : goal.returns
returns c = own_indexes
