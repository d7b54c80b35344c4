use Rattle.std.proofs.Common.{refl, sym, ◌∙◌, ap, subst, ◌++◌, ◌∷◌, [], get_or, arith}
use Rattle.complex_restr.specs.Locals.{AreFewStarts}
use Rattle.complex_restr.proofs.LocalLemmas.{room_left, one_counted}
use Rattle.complex_restr.proofs.local_codes.put_locals.Goals as goal

pub count_up-requires-clause-room : goal.count_up-requires-clause-room
count_up-requires-clause-room c =
    (room_left c.args.starts.now c.loop-start.counts c.loop-start.locals.items c.loop-start.start-index (get_or c.args.starts.now c.loop-start.start-index 0) 0
    (subst (λ n. AreFewStarts n c.args.starts.now) (sym c.loop-start.auto.counts) c.requires.few) c.loop-start.invariant (omega arith) refl).1

pub loop-start-preserved : goal.loop-start-preserved
loop-start-preserved c =
    let few : AreFewStarts _ c.args.starts.now = subst (λ n. AreFewStarts n c.args.starts.now) (sym c.loop-start.auto.counts) c.requires.few in
    one_counted c.args.starts.now c.loop-start.counts c.count_up.new.counts c.loop-start.locals.items c.push.new.self.items c.loop-start.start-index (get_or c.args.starts.now c.loop-start.start-index 0) 0
    c.loop-start.invariant (omega arith) refl c.count_up.ensures.after (few.inside c.loop-start.start-index 0 (omega arith))
    (c.in_ok-push.ensures.items ∙ ap (λ r. c.loop-start.locals.items ++ r ∷ []) c.count_up.ensures.was)
