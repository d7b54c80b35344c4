-- What was added so far.
use Rattle.std.proofs.Common.{◌≡◌, take}
use Rattle.std.specs.Prelude.{sum_by, min}
use Rattle.enhancer.proofs.density.cm_of.Given as goal

abbrev pub invariant-loop-k : goal.invariant-loop-k
invariant-loop-k l = l.sum ≡ min 15_000_000 (sum_by (λ e. e.cm) (take l.k l.node.edges))
