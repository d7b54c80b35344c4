use Rattle.std.proofs.Common.{◌≡◌, ◌+◌, ◌∙◌, ap, sym, subst, get_or, length, arith}
use Rattle.std.proofs.lemmas.List.{get_or_default}
use Rattle.edge_builder.specs.Groups.{no_place, places_of}
use Rattle.edge_builder.proofs.GroupLemmas.{IsCounted, one_counted, counted_inside, all_counted}
use Rattle.edge_builder.proofs.groups.Groups.count.Goals as goal

pub index-at-requires : goal.index-at-requires
index-at-requires c =
    let inside = counted_inside _ _ _ _ _ c.loop-at-test.true c.loop-at.invariant in
    omega (arith, inside.0, c.self.invariant.lengths)

pub loop-at-smaller : goal.loop-at-smaller
loop-at-smaller c =
    let inside = counted_inside _ _ _ _ _ c.loop-at-test.true c.loop-at.invariant in
    omega (arith, inside.1)

pub loop-at-preserved : goal.loop-at-preserved
loop-at-preserved c =
    let inside = counted_inside _ _ _ _ _ c.loop-at-test.true c.loop-at.invariant in
    let next : get_or c.self.inside.next.items c.loop-at.at no_place ≡ c.index-at.result.now = get_or_default c.self.inside.next.items c.loop-at.at no_place c.index-at.result.now (omega (arith, inside.0, c.self.invariant.lengths)) ∙ sym c.index-at.ensures in
    subst (λ k. IsCounted c.self.inside.numbers.items c.self.inside.next.items c.args.number k (c.loop-at.count + 1)) next (one_counted _ _ _ _ _ c.loop-at-test.true c.loop-at.invariant)

pub overflow_add-count : goal.overflow_add-count
overflow_add-count c =
    let inside = counted_inside _ _ _ _ _ c.loop-at-test.true c.loop-at.invariant in
    omega (arith, inside.1, c.self.invariant.few)

pub returns : goal.returns
returns c = all_counted _ _ _ _ _ c.self.invariant.few c.loop-at-test.false c.loop-at.invariant ∙ ap (λ ns. length (places_of c.args.number ns)) c.self.view_is
