use Rattle.road_walks.proofs.PatternsAgree.{patterns_tell}
use Rattle.road_walks.proofs.laws.patterns_tell.Goals as goal

pub returns : goal.returns
returns c = patterns_tell
