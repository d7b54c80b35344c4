use Rattle.turn_patterns.proofs.CountLaw.{matches_tell}
use Rattle.turn_patterns.proofs.laws.matches_tell.Goals as goal

pub returns : goal.returns
returns c = matches_tell
