-- The least of the neighbours so far.
use Rattle.std.proofs.Common.{◌≡◌, ◌≤◌, length, None}
use Rattle.tile_walks.specs.Keys.{IsLeastDouble, ids_of}
use Rattle.tile_walks.proofs.order.least_double.Given as goal

abbrev pub invariant-loop-i : goal.invariant-loop-i
invariant-loop-i l = IsLeastDouble (ids_of l.tiles) l.i l.found × (length l.tiles ≤ 0 → l.found ≡ None)
