use Rattle.std.proofs.Common.{◌+◌, ◌-◌, ◌*◌}
use Rattle.phase_run.proofs.workers.+runs.Given as goal

abbrev pub decreases-run_seats : goal.decreases-run_seats
decreases-run_seats g l = 2 * l.workers + 1

abbrev pub decreases-left : goal.decreases-left
decreases-left g l = 2 * l.half + 2

abbrev pub decreases-right : goal.decreases-right
decreases-right g l = 2 * (l.workers - l.half) + 2
