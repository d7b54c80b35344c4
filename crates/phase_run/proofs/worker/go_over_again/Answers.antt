use Rattle.tile_table.specs.Seats.{view}
use Rattle.tile_table.proofs.Staying.{loses-before}
use Rattle.phase_run.proofs.Working.{worked-on, alone-worked, last-waits, rest-waits, finishes-one}
use Rattle.phase_run.proofs.worker.go_over_again.Goals as goal

pub finish_claimed-requires-clause-place : goal.finish_claimed-requires-clause-place
finish_claimed-requires-clause-place g c κs within =
    (last-waits (view c.loop.seat) c.loop.later.items c.pop.new.self.items c.in-Some.i c.in-Some.ensures.items c.loop.invariant.waiting).0

pub finish_claimed-requires-clause-claimed : goal.finish_claimed-requires-clause-claimed
finish_claimed-requires-clause-claimed g c κs within =
    (last-waits (view c.loop.seat) c.loop.later.items c.pop.new.self.items c.in-Some.i c.in-Some.ensures.items c.loop.invariant.waiting).1

pub finish_claimed-requires-clause-unmarked : goal.finish_claimed-requires-clause-unmarked
finish_claimed-requires-clause-unmarked g c κs within =
    (last-waits (view c.loop.seat) c.loop.later.items c.pop.new.self.items c.in-Some.i c.in-Some.ensures.items c.loop.invariant.waiting).2

pub loop-preserved : goal.loop-preserved
loop-preserved g c =
    let inv = c.loop.invariant in
    let done = c.finish_claimed.ensures in
    record {
      worked = worked-on c.args.seat.now c.loop.seat c.finish_claimed.new.seat inv.worked done.worked;
      loses = loses-before (view c.args.seat.now) (view c.loop.seat) (view c.finish_claimed.new.seat) (alone-worked c.args.seat.now c.loop.seat inv.worked) inv.loses done.loses;
      waiting =
          rest-waits c.in-Ok.field-0 (view c.loop.seat) (view c.finish_claimed.new.seat) c.loop.later.items c.pop.new.self.items c.in-Some.i done.worked.world done.worked.first done.claims
          c.in-Some.ensures.items c.in-Ok.ensures.ended inv.waiting;
      finishes =
          finishes-one c.in-Ok.field-0 (view c.args.seat.now) (view c.loop.seat) (view c.finish_claimed.new.seat) c.in-Some.i inv.finishes done.claims done.seen c.in-Ok.ensures.ended;
    }
