use Rattle.std.proofs.Common.{◌≡◌}
use Rattle.tile_table.specs.Seats.{view, seat_name}
use Rattle.phase_run.proofs.Looking.{Trying}
use Rattle.phase_run.proofs.tries.taken_soon.Given as goal

abbrev pub invariant-loop-tried : goal.invariant-loop-tried
invariant-loop-tried g l =
    record {
      table : seat_name l.seat ≡ seat_name l.fn.seat;
      trying : Trying (view l.fn.seat) l.fn.j l.holder l.tried (view l.seat);
    }
