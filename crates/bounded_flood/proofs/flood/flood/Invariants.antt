use Rattle.std.proofs.Common.{◌≡◌, ◌≤◌, length}
use Rattle.std.specs.Prelude.{nat_eq}
use Rattle.bounded_flood.specs.Flood.{spread}
use Rattle.bounded_flood.specs.FlatGraph.{near_without, MarksShow}
use Rattle.bounded_flood.proofs.flood.flood.Given as goal

abbrev pub invariant-loop-n : goal.invariant-loop-n
invariant-loop-n l =
    record {
      same : length l.marks ≡ length l.fn.marks;
      marked : MarksShow l.marks l.seen.items;
      few : length l.seen.items ≤ 63;
      so_far : l.seen.items ≡ spread nat_eq (near_without l.starts l.links l.left) l.fn.v l.n;
    }
