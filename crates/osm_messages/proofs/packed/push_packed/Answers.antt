use Rattle.std.proofs.Common.{◌≡◌, ◌<◌, ◌∙◌, arith, length}
use Rattle.std.proofs.lemmas.List.{nil_from_length}
use Rattle.std.proofs.lemmas.Bool.Decides.{nat_tests}
use Rattle.osm_messages.proofs.Exits.{Becomes-wire}
use Rattle.osm_messages.proofs.PackedValues.{values-more, values-fault, values-end}
use Rattle.osm_messages.proofs.packed.push_packed.Goals as goal

pub returns-in_err-number : goal.returns-in_err-number
returns-in_err-number c =
    let some : 0 < length c.loop-rest.rest.now = grind (arith, nat_tests) in
    Becomes-wire _ _ _ _ c.from_residual.ensures.1 (c.loop-rest.invariant.same ∙ values-fault _ _ _ _ some c.in_err-number.ensures.fault)

pub loop-rest-preserved : goal.loop-rest-preserved
loop-rest-preserved c =
    let less = c.in_ok-number.ensures.shorter in
    let within = c.loop-rest.invariant.within in
    record {
      within = omega (arith, less, within);
      same = c.loop-rest.invariant.same ∙ values-more _ _ _ _ _ _ _ c.in_ok-number.ensures.spelled (omega (arith, less, within)) c.in_ok-push.ensures.items;
    }

pub returns : goal.returns
returns c =
    let none : length c.loop-rest.rest.now ≡ 0 = grind (arith, nat_tests) in
    c.loop-rest.invariant.same ∙ values-end _ _ _ (nil_from_length _ none)
