-- None of the edges so far is one.
use Rattle.std.specs.Prelude.{◌==◌, ◌&&◌}
use Rattle.enhancer.specs.NamesInCommon.{share_name, names_of_piece}
use Rattle.enhancer.proofs.AnyOf.{NoneOf}
use Rattle.enhancer.proofs.alike.alike_at.Given as goal

abbrev pub invariant-loop-k : goal.invariant-loop-k
invariant-loop-k l = NoneOf (λ f. (f.local == l.local) && share_name (names_of_piece l.pieces l.place) (names_of_piece l.pieces f.place)) l.node.edges l.k
