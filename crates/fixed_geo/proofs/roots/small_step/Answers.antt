use Rattle.fixed_geo.proofs.Newton.{step_above, step_below}
use Rattle.fixed_geo.proofs.roots.small_step.Goals as goal

pub returns-clause-above : goal.returns-clause-above
returns-clause-above c = step_above c.args.n c.args.guess c.requires.positive

pub returns-clause-below : goal.returns-clause-below
returns-clause-below c = step_below c.args.n c.args.guess
