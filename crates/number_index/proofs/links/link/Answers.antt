use Rattle.std.proofs.Common.{◌≡◌, ◌<◌, ◌+◌, ◌-◌, refl, subst, get_or, set, length, arith}
use Rattle.std.proofs.lemmas.List.{get_or_default}
use Rattle.number_index.specs.Links.{no_place}
use Rattle.number_index.proofs.LinkLemmas.{AreLinked, one_linked}
use Rattle.number_index.proofs.links.link.Goals as goal

pub loop-passed-preserved : goal.loop-passed-preserved
loop-passed-preserved c =
    let ns = c.args.numbers.now in
    let place = length ns - 1 - c.loop-passed.passed in
    let low : get_or ns place 0 < length c.args.first.now = c.requires.below place 0 (omega arith) in
    let was : AreLinked ns c.loop-passed.first c.loop-passed.next (place + 1) (length c.args.first.now) = subst (λ k. AreLinked ns c.loop-passed.first c.loop-passed.next k (length c.args.first.now)) (omega arith) c.loop-passed.invariant in
    let step = one_linked ns c.loop-passed.first c.loop-passed.next place (get_or ns place 0) (length c.args.first.now) (omega arith) refl low was in
    let same : get_or c.loop-passed.first (get_or ns place 0) no_place ≡ get_or c.loop-passed.first (get_or ns place 0) 0 = get_or_default c.loop-passed.first (get_or ns place 0) no_place 0 (omega (arith, low, c.loop-passed.auto.first)) in
    subst (λ k. AreLinked ns (set c.loop-passed.first (get_or ns place 0) place) (set c.loop-passed.next place (get_or c.loop-passed.first (get_or ns place 0) 0)) k (length c.args.first.now)) (omega arith)
    (subst (λ k. AreLinked ns (set c.loop-passed.first (get_or ns place 0) place) (set c.loop-passed.next place k) place (length c.args.first.now)) same step)
