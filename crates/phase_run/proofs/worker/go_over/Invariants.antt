use Rattle.tile_table.specs.Seats.{view}
use Rattle.tile_table.specs.Stays.{Loses}
use Rattle.phase_run.specs.Inner.Workers.{Worked, Waiting, GoesOver}
use Rattle.phase_run.proofs.worker.go_over.Given as goal

abbrev pub invariant-loop-i : goal.invariant-loop-i
invariant-loop-i g l =
    record {
      worked : Worked l.fn.seat l.seat;
      loses : Loses (view l.fn.seat) (view l.seat);
      waiting : Waiting (view l.seat) l.later.items;
      over : GoesOver l.from l.i (view l.fn.seat) (view l.seat);
    }
