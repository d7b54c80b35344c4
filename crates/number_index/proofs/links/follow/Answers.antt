use Rattle.std.proofs.Common.{◌≡◌, ◌+◌, ◌∷◌, [], ◌∙◌, ap, sym, subst, get_or, length, length-append, arith}
use Rattle.std.proofs.lemmas.List.{get_or_default}
use Rattle.number_index.specs.Links.{no_place}
use Rattle.number_index.proofs.LinkLemmas.{IsAppended, one_appended, appended_inside, all_appended}
use Rattle.number_index.proofs.links.follow.Goals as goal

pub bounds-next-at : goal.bounds-next-at
bounds-next-at c =
    let inside = appended_inside _ _ _ _ _ _ c.loop-at-test.true c.loop-at.invariant in
    omega (arith, inside.0, c.requires.links.lengths)

pub loop-at-smaller : goal.loop-at-smaller
loop-at-smaller c =
    let inside = appended_inside _ _ _ _ _ _ c.loop-at-test.true c.loop-at.invariant in
    let more : length c.push.new.self.items ≡ length c.loop-at.places.items + 1 = ap length c.in_ok-push.ensures.items ∙ length-append c.loop-at.places.items (c.loop-at.at ∷ []) in
    omega (arith, inside.1, more)

pub loop-at-preserved : goal.loop-at-preserved
loop-at-preserved c =
    let inside = appended_inside _ _ _ _ _ _ c.loop-at-test.true c.loop-at.invariant in
    let next : get_or c.args.next.now c.loop-at.at no_place ≡ get_or c.args.next.now c.loop-at.at 0 = get_or_default c.args.next.now c.loop-at.at no_place 0 (omega (arith, inside.0, c.requires.links.lengths)) in
    subst (λ k. IsAppended c.args.numbers.now c.args.next.now c.args.number k c.args.places.now.items c.push.new.self.items) next
    (subst (IsAppended c.args.numbers.now c.args.next.now c.args.number (get_or c.args.next.now c.loop-at.at no_place) c.args.places.now.items) (sym c.in_ok-push.ensures.items) (one_appended _ _ _ _ _ _ c.loop-at-test.true c.loop-at.invariant))

pub returns : goal.returns
returns c = all_appended _ _ _ _ _ _ c.requires.links.few c.loop-at-test.false c.loop-at.invariant
