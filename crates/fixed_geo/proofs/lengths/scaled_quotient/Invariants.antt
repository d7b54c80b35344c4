use Rattle.std.proofs.Common.{◌*◌, ◌-◌, ◌^◌, ◌≤◌}
use Rattle.fixed_geo.proofs.lengths.scaled_quotient.Given as goal

abbrev pub invariant-loop-quotient : goal.invariant-loop-quotient
invariant-loop-quotient l = l.quotient * l.lower ≤ l.upper * 2 ^ 22

abbrev pub decreases-loop-quotient : goal.decreases-loop-quotient
decreases-loop-quotient l = 2 ^ 22 - l.quotient
