use Rattle.std.proofs.Common.{◌≡◌, ◌+◌, ◌∷◌, [], ◌∙◌, ap, sym, subst, get_or, length, length-append, arith}
use Rattle.std.proofs.lemmas.List.{get_or_default}
use Rattle.edge_builder.specs.Groups.{no_place, places_of}
use Rattle.edge_builder.proofs.GroupLemmas.{IsRead, one_read, read_inside, all_read}
use Rattle.edge_builder.proofs.groups.Groups.find.Goals as goal

pub index-at-requires : goal.index-at-requires
index-at-requires c =
    let inside = read_inside _ _ _ _ _ c.loop-at-test.true c.loop-at.invariant in
    omega (arith, inside.0, c.self.invariant.lengths)

pub loop-at-smaller : goal.loop-at-smaller
loop-at-smaller c =
    let inside = read_inside _ _ _ _ _ c.loop-at-test.true c.loop-at.invariant in
    let more : length c.push.new.self.items ≡ length c.loop-at.places.items + 1 = ap length c.in_ok-push.ensures.items ∙ length-append c.loop-at.places.items (c.loop-at.at ∷ []) in
    omega (arith, inside.1, more)

pub loop-at-preserved : goal.loop-at-preserved
loop-at-preserved c =
    let inside = read_inside _ _ _ _ _ c.loop-at-test.true c.loop-at.invariant in
    let read = one_read _ _ _ _ _ c.loop-at-test.true c.loop-at.invariant in
    let next : get_or c.self.inside.next.items c.loop-at.at no_place ≡ c.index-at.result.now = get_or_default c.self.inside.next.items c.loop-at.at no_place c.index-at.result.now (omega (arith, inside.0, c.self.invariant.lengths)) ∙ sym c.index-at.ensures in
    subst (λ k. IsRead c.self.inside.numbers.items c.self.inside.next.items c.args.number k c.push.new.self.items) next
    (subst (λ ks. IsRead c.self.inside.numbers.items c.self.inside.next.items c.args.number (get_or c.self.inside.next.items c.loop-at.at no_place) ks) (sym c.in_ok-push.ensures.items) read)

pub returns : goal.returns
returns c = all_read _ _ _ _ _ c.self.invariant.few c.loop-at-test.false c.loop-at.invariant ∙ ap (places_of c.args.number) c.self.view_is
