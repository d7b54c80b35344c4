use Rattle.road_pieces.proofs.HeadLemmas.{done_stays}
use Rattle.road_pieces.proofs.lines.Lines.extend.Goals as goal

pub returns-in_ok-push-clause-done : goal.returns-in_ok-push-clause-done
returns-in_ok-push-clause-done c = done_stays _ _ _ _ _ _ c.self.view_is c.self.invariant c.in_ok-push.ensures.items
