-- The starts of the edges of the pieces so far.
use Rattle.std.proofs.Common.{◌≡◌, take}
use Rattle.edge_builder.proofs.RowLemmas.{starts_of}
use Rattle.edge_builder.proofs.starts.edge_starts.Given as goal

abbrev pub invariant-loop-i : goal.invariant-loop-i
invariant-loop-i l = l.starts.items ≡ starts_of l.junctions (take l.i l.pieces)
