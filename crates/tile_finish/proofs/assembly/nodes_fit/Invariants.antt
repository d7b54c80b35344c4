-- The fields of the nodes so far fit.
use Rattle.std.proofs.Common.{ℕ, ◌<◌, get_or}
use Rattle.tile_records.specs.Nodes.{NodeFields, NodeFits}
use Rattle.tile_finish.proofs.assembly.nodes_fit.Given as goal

abbrev pub invariant-loop-node : goal.invariant-loop-node
invariant-loop-node l = (k : ℕ) (d : NodeFields) → k < l.node-index → NodeFits (get_or l.nodes k d)
