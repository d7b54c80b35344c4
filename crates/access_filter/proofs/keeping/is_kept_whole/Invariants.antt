-- Nothing of the nodes so far is dropped.
use Rattle.std.proofs.Common.{◌≡◌, take}
use Rattle.access_filter.specs.Kept.{kept_nodes}
use Rattle.access_filter.proofs.keeping.is_kept_whole.Given as goal

abbrev pub invariant-loop-i : goal.invariant-loop-i
invariant-loop-i l = kept_nodes l.modes (take l.i l.rows.nodes) ≡ take l.i l.rows.nodes
