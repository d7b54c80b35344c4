-- The spots of the nodes so far.
use Rattle.std.proofs.Common.{◌≡◌, ◌++◌, map, take}
use Rattle.enhancer.specs.Density.{spot_of}
use Rattle.enhancer.proofs.spots.put_spots.Given as goal

abbrev pub invariant-loop-i : goal.invariant-loop-i
invariant-loop-i l = l.spots.items ≡ l.fn.spots.items ++ map spot_of (take l.i l.rows.nodes)
