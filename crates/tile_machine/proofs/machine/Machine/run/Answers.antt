use Rattle.std.proofs.Common.{◌≡◌, ◌+◌, cond, is_ok, sym, ap, ◌∙◌, subst, arith}
use Rattle.tile_machine.specs.declared.event.Event.TheVariants.{Claim}
use Rattle.tile_machine.specs.Good.{IsGood}
use Rattle.tile_machine.proofs.Runs.{run_more, at_most_one}
use Rattle.tile_machine.proofs.machine.Machine.run.Goals as goal
use Rattle.tile_machine.proofs.machine.Machine.run.Goals.{in-Ok, in-Err}

pub loop-event-preserved : goal.loop-event-preserved
loop-event-preserved c =
    let counted : c.match-step.count ≡ cond (is_ok c.step.result) 1 0 =
    elim c.match-step.branch [
      | in-Ok w ↦ w.count-is ∙ sym (ap (λ r. cond (is_ok r) 1 0) w.in-Ok.is)
      | in-Err w ↦ w.count-is ∙ sym (ap (λ r. cond (is_ok r) 1 0) w.in-Err.is)
    ] in
    let more = run_more c.step.result c.args.self.now c.loop-event.self c.step.new.self c.args.events.now c.loop-event.event-index c.loop-event.count (Claim 0 0)
    c.loop-event-test.true c.loop-event.invariant.state c.loop-event.invariant.count c.step.ensures.taken c.step.ensures.refused c.step.ensures.unchanged in
    record {
      state = more.0;
      count = ap (λ n. c.loop-event.count + n) counted ∙ more.1;
      few = omega (arith, counted, at_most_one (is_ok c.step.result), c.loop-event.invariant.few);
      good = subst (λ n. IsGood n c.step.new.self) c.loop-event.invariant.good.all c.step.ensures.good;
    }
