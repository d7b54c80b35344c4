-- No junction so far has too many edges.
use Rattle.edge_builder.proofs.CrowdLemmas.{NoneBefore}
use Rattle.edge_builder.proofs.crowds.first_crowded.Given as goal

abbrev pub invariant-loop-i : goal.invariant-loop-i
invariant-loop-i l = NoneBefore l.junctions l.edges l.i
