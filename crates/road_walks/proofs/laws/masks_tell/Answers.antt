use Rattle.road_walks.proofs.PatternsAgree.{masks_tell}
use Rattle.road_walks.proofs.laws.masks_tell.Goals as goal

pub returns : goal.returns
returns c = masks_tell
