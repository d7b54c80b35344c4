use Rattle.std.proofs.Common.{arith}
use Rattle.road_pieces.proofs.HeadLemmas.{dropped}
use Rattle.road_pieces.proofs.lines.Lines.close.Goals as goal

pub returns-else-is_line-clause-done : goal.returns-else-is_line-clause-done
returns-else-is_line-clause-done c =
    dropped _ _ _ _ _ _ _ c.self.view_is c.self.invariant c.truncate.ensures.items (omega arith)
