use Rattle.std.proofs.Common.{◌+◌, ◌/◌, sym, ◌∙◌}
use Rattle.phase_run.proofs.Working.{both-went}
use Rattle.phase_run.proofs.workers.+runs.Goals.{then-low, else-low}
use Rattle.phase_run.proofs.workers.+runs.Goals as goal

pub returns-clause-went_over : goal.returns-clause-went_over
returns-clause-went_over g t c enough =
    let two = c.join-lower.result in
    elim c.if-low.branch [
      | then-low w ↦
          both-went c.args.seat c.split-upper.new.seat c.split-upper.result two.0.0 two.1.0 c.join.new.seat (c.worker.result + c.args.workers / 2) c.split-upper.ensures.view
          c.split-upper.ensures.new_view c.join.ensures.view (c.join-lower.ensures.first.1 w.if-low.true) (c.join-lower.ensures.second.1 (sym w.result-is ∙ enough))
      | else-low w ↦ absurd (cc (w.result-is, enough))
    ]
