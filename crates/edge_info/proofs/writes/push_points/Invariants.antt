use Rattle.std.proofs.Common.{◌≡◌, ◌++◌, take}
use Rattle.std.specs.List.{flat_map}
use Rattle.edge_info.specs.Entries.{point_bytes}
use Rattle.edge_info.proofs.writes.push_points.Given as goal

abbrev pub invariant-loop-point : goal.invariant-loop-point
invariant-loop-point l = l.out.items ≡ l.fn.out.items ++ flat_map point_bytes (take l.point-index l.points)
