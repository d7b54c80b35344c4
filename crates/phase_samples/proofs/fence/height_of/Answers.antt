use Rattle.std.proofs.Common.{sym}
use Rattle.tile_machine.proofs.Bridges.{at_get}
use Rattle.phase_samples.proofs.fence.height_of.Goals as goal

-- what was read stands at the place, so it is the height there
pub returns-in_ok-height-clause-height : goal.returns-in_ok-height-clause-height
returns-in_ok-height-clause-height g c heights shown = sym (at_get heights c.args.j c.in_ok-height.height 0 (c.in_ok-height.ensures.part heights shown))
