use Rattle.std.proofs.Common.{◌≡◌, ◌<◌, ◌^◌, length, Some, arith, rules}
use Rattle.std.proofs.lemmas.Map.Text.{btree_map_updates_str}
use Rattle.tile_infos.proofs.TextLemmas.{copy_pushed, place_pushed}
use Rattle.tile_infos.proofs.SearchLemmas.{knows_more}
use Rattle.tile_infos.proofs.names.add_text.Goals as goal

pub returns-clause-known : goal.returns-clause-known
returns-clause-known c =
    let texts = c.args.texts.now.items in
    let t = c.args.text.now in
    let at : c.in_ok-place.place ≡ length texts = omega (arith, c.in_ok-place.ensures, c.len.ensures) in
    let fits : c.in_ok-place.place < 2 ^ 32 = search rules in
    knows_more c.args.known.now c.insert.new.self texts c.push.new.self.items t c.in_ok-place.place
    (λ cs. btree_map_updates_str t c.args.known.now c.insert.new.self (Some c.in_ok-place.place) c.in_ok-insert.ensures.updates cs)
    c.requires.known c.requires.new at fits (copy_pushed texts c.push.new.self.items c.in_ok-from_str.field-0 t c.in_ok-push.ensures.items c.in_ok-from_str.ensures)

pub returns-clause-place : goal.returns-clause-place
returns-clause-place c =
    let texts = c.args.texts.now.items in
    let t = c.args.text.now in
    let at : c.in_ok-place.place ≡ length texts = omega (arith, c.in_ok-place.ensures, c.len.ensures) in
    place_pushed texts c.push.new.self.items t c.in_ok-place.place at (copy_pushed texts c.push.new.self.items c.in_ok-from_str.field-0 t c.in_ok-push.ensures.items c.in_ok-from_str.ensures) c.requires.new
