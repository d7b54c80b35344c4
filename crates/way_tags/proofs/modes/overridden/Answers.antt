use Rattle.way_tags.proofs.Words.{overridden_permitted, overridden_refused}
use Rattle.way_tags.proofs.modes.overridden.Goals as goal

pub returns-in-Some-true : goal.returns-in-Some-true
returns-in-Some-true c f g = overridden_permitted c.args.word c.args.modes c.args.verdict (cc) f g

pub returns-in-Some-false : goal.returns-in-Some-false
returns-in-Some-false c f g = overridden_refused c.args.word c.args.modes c.args.verdict (cc) f g
