use Rattle.fixed_geo.proofs.Quotient.{leading_low}
use Rattle.fixed_geo.proofs.lengths.scaled_quotient.Goals as goal

pub loop-quotient-init : goal.loop-quotient-init
loop-quotient-init c = leading_low c.args.upper c.args.lower
