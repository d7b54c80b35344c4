use Rattle.std.proofs.Common.{◌≡◌, ◌≤◌, drop, length}
use Rattle.std.specs.Prelude.{nat_eq}
use Rattle.bounded_flood.specs.Flood.{seen_all}
use Rattle.bounded_flood.specs.FlatGraph.{ends_without, MarksShow}
use Rattle.bounded_flood.proofs.marks.see_ends.Given as goal

-- what was seen, and then what the rest gives
abbrev pub invariant-loop-link : goal.invariant-loop-link
invariant-loop-link l =
    record {
      same : length l.marks ≡ length l.fn.marks;
      marked : MarksShow l.marks l.seen.items;
      few : length l.seen.items ≤ 63;
      rest : seen_all nat_eq l.seen.items (ends_without l.left (drop l.link-index l.links)) ≡ seen_all nat_eq l.fn.seen.items (ends_without l.left l.links);
    }
