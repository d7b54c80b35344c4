use Rattle.std.proofs.Common.{◌≡◌, ◌+◌, ◌<◌, ◌++◌, ◌∷◌, [], length, take, ◌∙◌, ap, sym, arith}
use Rattle.std.proofs.lemmas.List.{take_more}
use Rattle.tile_infos.proofs.TextLemmas.{once_step, names_step}
use Rattle.tile_infos.proofs.names.put_names.Goals as goal

pub loop-i-preserved : goal.loop-i-preserved
loop-i-preserved c =
    let names = c.args.names.now in
    let i = c.loop-i.i in
    let t = c.at.result.now in
    let before = c.args.texts.now.items in
    let texts = c.loop-i.texts.items in
    let new = c.place_of_text.new.texts.items in
    let placed = c.in_ok-place_of_text.ensures in
    let lt : i < length names = omega (arith, c.loop-i-test.true, c.len-i-end.ensures) in
    let next : take (i + 1) names ≡ take i names ++ t ∷ [] = take_more names i t lt ∙ ap (λ s. take i names ++ s ∷ []) (sym c.at.ensures) in (
      placed.known,
      once_step before (take i names) (take (i + 1) names) texts new t next c.loop-i.invariant.1 placed.texts,
      names_step before (take i names) (take (i + 1) names) texts new t c.loop-i.places.items c.push.new.self.items c.in_ok-place_of_text.field-0 next c.loop-i.invariant.1 placed.texts placed.place c.loop-i.invariant.2 c.in_ok-push.ensures.items,
    )
