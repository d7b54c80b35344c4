use Rattle.std.proofs.Common.{◌≡◌, ◌+◌, ◌<◌, ◌++◌, ◌∷◌, [], length, take, get_or, ◌∙◌, arith}
use Rattle.tile_infos.specs.TileTexts.{texts_of_pieces}
use Rattle.tile_infos.specs.TileEntries.{pieces_at}
use Rattle.tile_infos.proofs.EntryLemmas.{pieces_more, texts_step, infos_step, offsets_step}
use Rattle.tile_infos.proofs.tile.tile_infos.Goals as goal

pub loop-place-preserved : goal.loop-place-preserved
loop-place-preserved c =
    let pieces = c.args.pieces.now in
    let places = c.args.places.now in
    let i = c.loop-place.place-index in
    let p = c.at-piece.result in
    let names = c.names.result.now in
    let done = pieces_at pieces (take i places) in
    let part = pieces_at pieces (take (i + 1) places) in
    let new = c.put_names.new.texts.items in
    let put = c.in_ok-put_names.ensures in
    let lt : i < length places = omega (arith, c.loop-place-test.true) in
    let inside : get_or places i 0 < length pieces = c.requires i 0 lt in
    let next : part ≡ done ++ p ∷ [] = pieces_more pieces places i p lt inside c.at-piece.ensures in
    let texts : new ≡ texts_of_pieces part = texts_step done part p c.loop-place.texts.items new names next c.loop-place.invariant.1 c.names.ensures put.texts in (
      put.known,
      texts,
      infos_step done part p new names c.loop-place.infos c.push_parts.new.self c.key.result c.shape.result.now c.deref.result.now next texts c.loop-place.invariant.2 c.names.ensures c.key.ensures c.shape.ensures (c.deref.ensures.value ∙ put.places) c.in_ok-push_parts.ensures.ok,
      offsets_step c.loop-place.infos c.push_parts.new.self (record { key = c.key.result; shape = c.shape.result.now; texts = c.deref.result.now }) c.loop-place.offsets.items c.push.new.self.items c.in_ok-size_of_all.field-0 c.loop-place.invariant.3 c.in_ok-size_of_all.ensures c.in_ok-push.ensures.items c.in_ok-push_parts.ensures.ok,
    )
