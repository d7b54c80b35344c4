-- The nodes so far are kept or left.
use Rattle.std.proofs.Common.{◌≡◌, take}
use Rattle.access_filter.specs.Kept.{kept_nodes}
use Rattle.access_filter.proofs.keeping.rows_kept.Given as goal

abbrev pub invariant-loop-i : goal.invariant-loop-i
invariant-loop-i l = l.kept ≡ record l.rows { nodes = kept_nodes l.modes (take l.i l.rows.nodes) }
