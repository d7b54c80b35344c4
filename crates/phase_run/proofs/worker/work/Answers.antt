use Rattle.std.proofs.Common.{subst}
use Rattle.tile_table.specs.Seats.{view}
use Rattle.phase_run.specs.Inner.Workers.{GoesOver}
use Rattle.phase_run.proofs.Working.{goes-round, went-again}
use Rattle.phase_run.proofs.worker.work.Goals as goal

pub returns-in-Ok-go_over_again-clause-went_over : goal.returns-in-Ok-go_over_again-clause-went_over
returns-in-Ok-go_over_again-clause-went_over g c enough =
    let before = view c.args.seat in
    let between = view c.go_over.new.seat in
    let start = c.min-start.result in
    went-again before (view c.go_over-2.new.seat) (view c.go_over_again.new.seat)
    (goes-round start before between (view c.go_over-2.new.seat) (subst (λ n. GoesOver start n before between) c.tiles-tiles.ensures c.in-Ok.ensures.goes_over) c.in-Ok-go_over.ensures.goes_over)
    c.in-Ok-go_over_again.ensures.finishes c.go_over_again.ensures.loses
