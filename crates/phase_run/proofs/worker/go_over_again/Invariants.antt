use Rattle.tile_table.specs.Seats.{view}
use Rattle.tile_table.specs.Stays.{Loses}
use Rattle.phase_run.specs.Inner.Workers.{Worked, Waiting, Finishes}
use Rattle.phase_run.proofs.worker.go_over_again.Given as goal

abbrev pub invariant-loop : goal.invariant-loop
invariant-loop g l =
    record {
      worked : Worked l.fn.seat l.seat;
      loses : Loses (view l.fn.seat) (view l.seat);
      waiting : Waiting (view l.seat) l.later.items;
      finishes : Finishes (view l.fn.seat) (view l.seat);
    }
