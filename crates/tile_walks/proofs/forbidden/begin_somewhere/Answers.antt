use Rattle.std.proofs.Common.{length, sym, ◌∙◌, subst}
use Rattle.std.proofs.lemmas.Bool.{both_ways, eqb-true, eq-eqb}
use Rattle.tile_walks.specs.Forbidden.{Begin}
use Rattle.tile_walks.proofs.Beginnings.{onward, nowhere, rest_is}
use Rattle.tile_walks.proofs.forbidden.begin_somewhere.Goals as goal

pub loop-i-preserved : goal.loop-i-preserved
loop-i-preserved c =
    onward c.args.edges.now c.args.items.now c.loop-i.i c.loop-i-test.true
    (λ h. both_ways _ c.if-begin.false (c.begin.ensures.1 (subst (Begin c.args.edges.now) (sym (rest_is c.args.items.now c.loop-i.i)) h))) c.loop-i.invariant

pub returns : goal.returns
returns c =
    let both = nowhere c.args.edges.now c.args.items.now c.loop-i.i c.loop-i-test.false c.loop-i.invariant in
    (λ yes. both.1 (eqb-true (length c.args.edges.now) 0 (sym c.is_empty.ensures ∙ yes)), λ h. c.is_empty.ensures ∙ eq-eqb (length c.args.edges.now) 0 (both.0 h))
