-- The tiles so far, with those of the spots that are left, are all tiles.
use Rattle.std.proofs.Common.{◌≡◌, ◌≤◌, ◌-◌, ◌++◌, length, map, drop}
use Rattle.hierarchy.specs.Spots.{placed_of, tiles_of_nodes}
use Rattle.hierarchy.proofs.tiles.push_tiles.Given as goal

abbrev pub invariant-loop-from : goal.invariant-loop-from
invariant-loop-from l = record {
  inside : l.from ≤ length l.spots;
  whole : l.lifted.items ++ tiles_of_nodes l.level (map (placed_of l.level l.tiles) (drop l.from l.spots)) ≡ l.fn.lifted.items ++ tiles_of_nodes l.level (map (placed_of l.level l.tiles) l.spots);
}

abbrev pub decreases-loop-from : goal.decreases-loop-from
decreases-loop-from l = length l.spots - l.from
