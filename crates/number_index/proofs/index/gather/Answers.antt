use Rattle.std.proofs.Common.{◌≡◌, ◌≤◌, ◌++◌, ◌∷◌, [], ◌∙◌, ap, sym, suc, length, add-one, arith}
use Rattle.number_index.specs.Indexed.{heads_below, places_below}
use Rattle.number_index.specs.Standing.{stands_at}
use Rattle.number_index.proofs.IndexLemmas.{below_few}
use Rattle.number_index.proofs.index.gather.Goals as goal

pub overflow_cast-len : goal.overflow_cast-len
overflow_cast-len c =
    let few : length (places_below c.args.numbers.now (suc c.loop-number.number)) ≤ length c.args.numbers.now = below_few c.args.numbers.now (suc c.loop-number.number) in
    let now : length c.follow.new.places.items ≡ length (places_below c.args.numbers.now (suc c.loop-number.number)) = ap length (c.in_ok-follow.ensures ∙ ap (λ ps. ps ++ stands_at c.loop-number.number c.args.numbers.now) c.loop-number.invariant.places) in
    omega (arith, few, now, c.len.ensures, c.requires.links.few)

pub loop-number-preserved : goal.loop-number-preserved
loop-number-preserved c =
    let numbers = c.args.numbers.now in
    let n = c.loop-number.number in
    let places : c.follow.new.places.items ≡ places_below numbers (suc n) = c.in_ok-follow.ensures ∙ ap (λ ps. ps ++ stands_at n numbers) c.loop-number.invariant.places in
    let size : c.len.result ≡ length c.follow.new.places.items = omega (arith, c.len.ensures) in
    let heads : c.push-in-loop-number.new.self.items ≡ heads_below numbers (suc n) = c.in_ok-push-2.ensures.items ∙ ap (λ hs. hs ++ c.len.result ∷ []) c.loop-number.invariant.heads ∙ ap (λ k. heads_below numbers n ++ k ∷ []) (size ∙ ap length places) in
    record { heads = heads ∙ ap (heads_below numbers) (sym (add-one n)); places = places ∙ ap (places_below numbers) (sym (add-one n)) }
