-- The fields of the edges so far fit.
use Rattle.std.proofs.Common.{ℕ, ◌<◌, get_or}
use Rattle.tile_records.specs.Edges.{EdgeFields, EdgeFits}
use Rattle.tile_finish.proofs.assembly.edges_fit.Given as goal

abbrev pub invariant-loop-edge : goal.invariant-loop-edge
invariant-loop-edge l = (k : ℕ) (d : EdgeFields) → k < l.edge-index → EdgeFits (get_or l.edges k d)
