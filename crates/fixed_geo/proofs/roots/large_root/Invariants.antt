use Rattle.std.proofs.Common.{◌+◌, ◌*◌, ◌^◌, ◌<◌}
use Rattle.fixed_geo.proofs.roots.large_root.Given as goal

abbrev pub invariant-loop-guess : goal.invariant-loop-guess
invariant-loop-guess l = (l.n < (l.guess + 1) * (l.guess + 1)) × (l.guess < 2 ^ 64)

abbrev pub decreases-loop-guess : goal.decreases-loop-guess
decreases-loop-guess l = l.guess
