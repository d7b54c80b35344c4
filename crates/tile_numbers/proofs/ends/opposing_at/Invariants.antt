-- None of the edges so far is the opposing one.
use Rattle.tile_numbers.specs.LookUps.{runs_back}
use Rattle.tile_numbers.proofs.BackEdges.{NoneBefore}
use Rattle.tile_numbers.proofs.ends.opposing_at.Given as goal

abbrev pub invariant-loop-k : goal.invariant-loop-k
invariant-loop-k l = NoneBefore (runs_back l.key) l.node.edges l.k
