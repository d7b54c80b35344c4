use Rattle.pattern_search.proofs.StepLaw.{steps_tell}
use Rattle.pattern_search.proofs.laws.steps_tell.Goals as goal

pub returns : goal.returns
returns c = steps_tell
