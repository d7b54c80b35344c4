use Rattle.std.proofs.Common.{◌∙◌, refl}
use Rattle.tile_table.specs.Seats.{view}
use Rattle.phase_run.proofs.Looking.{begins-trying, tries-again}
use Rattle.phase_run.proofs.tries.taken_soon.Goals as goal

pub loop-tried-init : goal.loop-tried-init
loop-tried-init g c = record { table = refl; trying = begins-trying (view c.args.seat.now) c.args.j c.requires.hand }

pub loop-tried-preserved : goal.loop-tried-preserved
loop-tried-preserved g c =
    record {
      table = c.take.ensures.table ∙ c.loop-tried.invariant.table;
      trying =
          tries-again (view c.args.seat.now) c.args.j c.in-Err.busy.holder c.loop-tried.tried (view c.loop-tried.seat) (view c.take.new.seat) c.loop-tried.holder
          c.loop-tried.invariant.trying c.in-Err.ensures.busy;
    }
