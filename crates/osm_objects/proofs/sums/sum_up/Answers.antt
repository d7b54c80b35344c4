use Rattle.std.proofs.Common.{rules, ◌∙◌, arith, FitsSigned, w64, refl}
use Rattle.std.proofs.lemmas.Int.{to_z-of_z}
use Rattle.osm_objects.proofs.SumsSoFar.{sums-begun, sums-pushed, sums-past, sums-end}
use Rattle.osm_objects.proofs.sums.sum_up.Goals as goal

pub loop-i-init : goal.loop-i-init
loop-i-init c =
    rw (c.in_ok-reserve.ensures.items, c.clear.ensures.items) (sums-begun c.args.at c.args.differences.now)

pub returns-in_default : goal.returns-in_default
returns-in_default c =
    let fits : FitsSigned w64 c.unzigzag.result = search rules in
    c.loop-i.invariant
    ∙ sums-past _ _ _ _ _ c.args.differences.now c.loop-i.i _ (omega arith) refl c.unzigzag.ensures (to_z-of_z w64 c.unzigzag.result fits) c.in_default.ensures

pub loop-i-preserved : goal.loop-i-preserved
loop-i-preserved c =
    let fits : FitsSigned w64 c.unzigzag.result = search rules in
    let next : FitsSigned w64 c.in-Some.next = search rules in
    c.loop-i.invariant
    ∙ sums-pushed _ _ _ _ _ _ _ _ c.args.differences.now c.loop-i.i _ (omega arith) refl c.unzigzag.ensures (to_z-of_z w64 c.unzigzag.result fits) c.in-Some.ensures.0 c.in-Some.ensures.1 (to_z-of_z w64 c.in-Some.next next) c.in_ok-push.ensures.items

pub returns : goal.returns
returns c = c.loop-i.invariant ∙ sums-end _ _ _ c.args.differences.now c.loop-i.i (omega arith)
