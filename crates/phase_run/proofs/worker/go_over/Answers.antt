use Rattle.std.proofs.Common.{◌≡◌, length, ap, subst, arith}
use Rattle.tile_table.specs.Seats.{view}
use Rattle.phase_run.specs.Inner.Workers.{GoesOver}
use Rattle.tile_table.proofs.Staying.{loses-before}
use Rattle.phase_run.proofs.Working.{worked-on, alone-worked, goes-on, noted-waits}
use Rattle.phase_run.proofs.worker.go_over.Goals as goal

pub loop-i-preserved : goal.loop-i-preserved
loop-i-preserved g c =
    let inv = c.loop-i.invariant in
    record {
      worked = worked-on c.args.seat.now c.loop-i.seat c.one_place.new.seat inv.worked c.one_place.ensures.worked;
      loses = loses-before (view c.args.seat.now) (view c.loop-i.seat) (view c.one_place.new.seat) (alone-worked c.args.seat.now c.loop-i.seat inv.worked) inv.loses c.one_place.ensures.loses;
      waiting =
          noted-waits c.in-Ok.visit (view c.loop-i.seat) (view c.one_place.new.seat) c.loop-i.later.items c.note.new.places.items c.loop-i.i
          (omega (arith, c.loop-i-test.true, c.loop-i.auto.i-end, c.requires.places, ap length inv.worked.world)) c.one_place.ensures.worked.world c.one_place.ensures.worked.first
          c.in-Ok.ensures.visits inv.waiting c.note.ensures;
      over =
          goes-on c.in-Ok.visit c.args.from c.loop-i.i (view c.args.seat.now) (view c.loop-i.seat) (view c.one_place.new.seat) inv.over c.in-Ok.ensures.visits
          c.one_place.ensures.loses (alone-worked c.args.seat.now c.loop-i.seat inv.worked);
    }

pub returns-clause-goes_over : goal.returns-clause-goes_over
returns-clause-goes_over g c =
    let done : c.loop-i.i ≡ c.args.to = omega (arith, c.loop-i-test.false, c.loop-i.auto.i-end) in
    subst (λ n. GoesOver c.args.from n (view c.args.seat.now) (view c.loop-i.seat)) done c.loop-i.invariant.over
