use Rattle.road_walks.proofs.PatternsAgree.{sequences_tell}
use Rattle.road_walks.proofs.laws.sequences_tell.Goals as goal

pub returns : goal.returns
returns c = sequences_tell
