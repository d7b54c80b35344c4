use Rattle.std.proofs.Common.{◌++◌, ◌∷◌, [], sym, subst}
use Rattle.std.specs.Prelude.{is_ok}
use Rattle.std.proofs.lemmas.Bool.{cond_both}
use Rattle.enhancer.specs.Tells.{Holds, HeldRise}
use Rattle.enhancer.proofs.HeldMore.{holds_more, rise_more}
use Rattle.enhancer.proofs.phase.hold.Goals as goal

pub returns-clause-held : goal.returns-clause-held
returns-clause-held g c = λ ps shown before.
    subst (λ xs. Holds xs ps) (sym c.push.ensures.items)
    (cond_both (is_ok c.push.result) (c.args.held.now.items ++ record { place = c.args.j; rows = c.in_ok-rows.rows } ∷ []) c.args.held.now.items (λ xs. Holds xs ps)
    (λ _. holds_more c.args.held.now.items ps c.args.j c.in_ok-rows.rows (c.in_ok-rows.ensures.part ps shown) before)
    (λ _. before))

pub returns-clause-rise : goal.returns-clause-rise
returns-clause-rise g c = λ before.
    let ps = c.requires.shown.0 in
    subst HeldRise (sym c.push.ensures.items)
    (cond_both (is_ok c.push.result) (c.args.held.now.items ++ record { place = c.args.j; rows = c.in_ok-rows.rows } ∷ []) c.args.held.now.items HeldRise
    (λ _. rise_more c.args.held.now.items ps c.args.j c.in_ok-rows.rows (c.in_ok-rows.ensures.part ps c.requires.shown.1) c.requires.shown.2.nodes before)
    (λ _. before))
