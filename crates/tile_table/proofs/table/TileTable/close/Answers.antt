use Rattle.std.proofs.Common.{◌≡◌, ℕ, ◌<◌, ◌≤◌, ◌+◌, ◌*◌, [], ◌∷◌, length, length-append, nat_lt, true, false, slice_index_or, refl, ap, sym, ◌∙◌, subst, eqb, arith}
use Rattle.std.specs.Prelude.{Some}
use Rattle.std.specs.Slots.{slots_items, slots_len, slots_filled}
use Rattle.std.proofs.Math.ListN.{get_elem?}
use mathlib.Core.Option.{some, some-injective}
use Rattle.atomic_table.specs.Table.{Final, Seen}
use Rattle.tile_machine.specs.At.{At}
use Rattle.tile_table.specs.declared.seat.Closed.{Closed}
use Rattle.tile_table.specs.Shows.{Shows}
use Rattle.tile_table.specs.Views.{tiles_by}
use Rattle.tile_table.specs.Counts.{times_in}
use Rattle.tile_table.proofs.LastState.{ClosedSoFar, closes-at, same-tile, none-closed, one-more-closed}
use Rattle.tile_table.proofs.Row.{still-full, more-empty}
use Rattle.tile_table.proofs.table.TileTable.close.Goals as goal

pub loop-i-init : goal.loop-i-init
loop-i-init g c =
    record {
      words = refl;
      items = refl;
      len = refl;
      full = c.close_with-closed.ensures.values.1;
      empty = λ k h. absurd (omega (arith, h));
      many = ap length c.requires.empty;
      room = omega arith;
      tiles = none-closed c.args.seat.seat.me.0 c.args.room.items c.requires.empty;
    }

pub word-done-requires : goal.word-done-requires
word-done-requires g c =
    let table = c.args.self in
    let seat = c.args.seat in
    let counts = c.close_with-closed.ensures.counts in
    let slots : seat.seat.table_id.slots ≡ table.table.shared.table_id.slots = ap (λ n. n.slots) c.requires.table in
    let words : c.into_table.result.shared.table_id.words ≡ table.table.shared.table_id.words = ap (λ t. t.shared.table_id.words) c.into_table.ensures in
    let len = ap slots_len c.loop-i.invariant.words in (
      omega (arith, len, counts.0, words, table.words, table.slots, slots, seat.placed, c.loop-i-test.true),
      subst (λ ws. (k : ℕ) → 0 ≤ k → k < ws.len → slice_index_or ws.filled k false ≡ true) (sym c.loop-i.invariant.words) c.close_with-closed.ensures.values.0,
    )

pub take-requires : goal.take-requires
take-requires g c =
    let table = c.args.self in
    let seat = c.args.seat in
    let counts = c.close_with-closed.ensures.counts in
    let slots : seat.seat.table_id.slots ≡ table.table.shared.table_id.slots = ap (λ n. n.slots) c.requires.table in
    let words : c.into_table.result.shared.table_id.slots ≡ table.table.shared.table_id.slots = ap (λ t. t.shared.table_id.slots) c.into_table.ensures in
    let inside : c.loop-i.i < slots_len c.loop-i.closed.slots = omega (arith, c.loop-i.invariant.len, counts.1, words, slots, seat.placed, c.loop-i-test.true) in
    (inside, c.loop-i.invariant.full c.loop-i.i (omega arith) inside)

pub unreachable-requires : goal.unreachable-requires
unreachable-requires g c =
    let seat = c.args.seat in
    let rows = c.close_with-closed.result in
    let final = subst (λ p. Final (Seen Shows p.id p.me.0) (slots_items rows.words) (slots_items rows.slots)) c.into_place.ensures c.close_with-closed.ensures.values.2 in
    let read : get_elem? (slots_items rows.words) (3 * c.loop-i.i + 2) ≡ some c.word-done.result = subst (λ ws. get_elem? (slots_items ws) (3 * c.loop-i.i + 2) ≡ some c.word-done.result) c.loop-i.invariant.words c.word-done.ensures in
    let found = closes-at (slots_items rows.words) (slots_items rows.slots) seat.seat.id seat.seat.me.0 final (omega (arith, seat.live, seat.numbered)) c.requires.first c.requires.all c.requires.hand c.loop-i.i c.word-done.result (omega (arith, c.loop-i-test.true, seat.counted)) read in
    let had : get_elem? (slots_items rows.slots) c.loop-i.i ≡ some c.take.result = subst (λ xs. get_elem? xs c.loop-i.i ≡ some c.take.result) c.loop-i.invariant.items c.take.ensures.value in
    c.in_default.not-Some found.1.0 (some-injective c.take.result (Some found.1.0) (sym had ∙ found.1.2))

pub unreachable-requires-in_default-push : goal.unreachable-requires-in_default-push
unreachable-requires-in_default-push g c =
    let inv = c.loop-i.invariant in
    omega (arith, c.in_default-push.ensures.full, c.loop-i.room.ok, inv.many, inv.room, c.requires.large, c.loop-i-test.true, c.args.seat.counted)

pub loop-i-preserved : goal.loop-i-preserved
loop-i-preserved g c =
    let seat = c.args.seat in
    let rows = c.close_with-closed.result in
    let final = subst (λ p. Final (Seen Shows p.id p.me.0) (slots_items rows.words) (slots_items rows.slots)) c.into_place.ensures c.close_with-closed.ensures.values.2 in
    let read : get_elem? (slots_items rows.words) (3 * c.loop-i.i + 2) ≡ some c.word-done.result = subst (λ ws. get_elem? (slots_items ws) (3 * c.loop-i.i + 2) ≡ some c.word-done.result) c.loop-i.invariant.words c.word-done.ensures in
    let found = closes-at (slots_items rows.words) (slots_items rows.slots) seat.seat.id seat.seat.me.0 final (omega (arith, seat.live, seat.numbered)) c.requires.first c.requires.all c.requires.hand c.loop-i.i c.word-done.result (omega (arith, c.loop-i-test.true, seat.counted)) read in
    let had : get_elem? (slots_items rows.slots) c.loop-i.i ≡ some c.take.result = subst (λ xs. get_elem? xs c.loop-i.i ≡ some c.take.result) c.loop-i.invariant.items c.take.ensures.value in
    let v = seat.seat.me.0 in
    let inv = c.loop-i.invariant in
    let others = c.take.ensures.others in
    let more = c.in-Ok.ensures in
    let tile = same-tile (slots_items rows.slots) c.loop-i.i c.take.result found.1.0 c.in-Some.tile had c.in-Some.is found.1.2 in
    let one : Closed g.row.P.Denot g.row.P-Tile.Denot g.row.P-Part.Denot = record { tile = c.in-Some.tile; done = eqb c.word-done.result 1 } in
    record {
      words = others.3 ∙ inv.words;
      items = others.0 ∙ inv.items;
      len = others.2 ∙ inv.len;
      full =
          λ k le lt. subst (λ f. slice_index_or f k false ≡ true) (sym others.1)
          (still-full (slots_filled c.loop-i.closed.slots) c.loop-i.i (slots_len c.loop-i.closed.slots) inv.full k le (omega (arith, lt, others.2)));
      empty =
          λ k lt. subst (λ f. slice_index_or f k false ≡ false) (sym others.1) (more-empty (slots_filled c.loop-i.closed.slots) c.loop-i.i inv.empty k lt);
      many = omega (arith, ap length more.items, length-append c.loop-i.room.items (one ∷ []), inv.many);
      room = omega (arith, inv.room, more.capacity);
      tiles =
          subst (λ xs. ClosedSoFar v xs) (sym more.items)
          (one-more-closed v c.loop-i.room.items one inv.tiles
          (subst (λ n. eqb c.word-done.result 1 ≡ nat_lt 0 (times_in n v.marks)) (sym inv.many) found.0)
          (subst (λ n. At (tiles_by (eqb c.word-done.result 1) v.world v.goal) n c.in-Some.tile) (sym inv.many) (subst (λ t. At (tiles_by (eqb c.word-done.result 1) v.world v.goal) c.loop-i.i t) tile found.1.1)));
    }

pub free-requires : goal.free-requires
free-requires g c =
    let table = c.args.self in
    let seat = c.args.seat in
    let counts = c.close_with-closed.ensures.counts in
    let slots : seat.seat.table_id.slots ≡ table.table.shared.table_id.slots = ap (λ n. n.slots) c.requires.table in
    let words : c.into_table.result.shared.table_id.slots ≡ table.table.shared.table_id.slots = ap (λ t. t.shared.table_id.slots) c.into_table.ensures in
    λ k h. c.loop-i.invariant.empty k (omega (arith, h, c.loop-i.invariant.len, counts.1, words, slots, seat.placed, c.loop-i-test.false))

pub returns : goal.returns
returns g c =
    let inv = c.loop-i.invariant in
    record {
      many = omega (arith, inv.many, c.loop-i-test.false, c.loop-i.auto.i-end, c.args.seat.counted);
      done = inv.tiles.done;
      stands = inv.tiles.stands;
    }
