use Rattle.std.proofs.Common.{◌≡◌, length, drop}
use Rattle.bounded_flood.proofs.MarksCleared.{OnlyMarked}
use Rattle.bounded_flood.proofs.marks.clear_marks.Given as goal

abbrev pub invariant-loop-junction : goal.invariant-loop-junction
invariant-loop-junction l =
    record {
      same : length l.marks ≡ length l.fn.marks;
      rest : OnlyMarked l.marks (drop l.junction-index l.seen);
    }
