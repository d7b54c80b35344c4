use Rattle.std.proofs.Common.{◌≡◌, ◌∷◌, length, refl, true, ap, sym, ◌∙◌, subst, arith}
use Rattle.std.specs.Prelude.{Some, None}
use Rattle.atomic_table.specs.Table.{rest}
use Rattle.tile_table.specs.Views.{with_mark, with_no_hand}
use Rattle.tile_machine.specs.At.{At}
use Rattle.tile_table.proofs.Moves.{marks, frees}
use Rattle.tile_table.proofs.Told.{only-out, fits-none}
use Rattle.tile_table.proofs.table.TileTable.finish.Goals as goal

pub store-requires : goal.store-requires
store-requires g c =
    let seat = c.args.seat.now in
    let table = c.args.self.now in
    let turn = c.requires.turn in
    let o = only-out seat.seat.me.0.hand seat.seat.me.1 c.args.turn.place c.args.turn.marked turn.hand seat.slots in
    let slots : seat.seat.table_id.slots ≡ table.table.shared.table_id.slots = ap (λ n. n.slots) c.requires.table in (
      c.requires.table,
      omega (arith, table.words, table.slots, slots, seat.placed, seat.counted, turn.inside),
      marks table.table.shared.table_id.slots seat.seat.id seat.seat.me seat.seat.me.0 c.args.turn.place c.args.turn.marked (ap (λ xs. (seat.seat.me.0, xs)) o)
          (omega (arith, seat.live, seat.numbered)) turn.hand c.requires.claimed c.requires.unmarked,
    )

pub exchange-requires : goal.exchange-requires
exchange-requires g c =
    let set = c.store.ensures in
    let k = set.2 c.args.turn.place refl in
    let out = ap (λ y. y.1) k.0 ∙ k.1 in
    (set.0 ∙ c.requires.table, (None, out ∙ ap (λ xs. (c.args.turn.place, None) ∷ xs) (sym (ap rest out))))

pub store-requires-2 : goal.store-requires-2
store-requires-2 g c =
    let seat = c.args.seat.now in
    let table = c.args.self.now in
    let turn = c.requires.turn in
    let mid = c.store.new.seat in
    let set = c.store.ensures in
    let moved = c.exchange.ensures in
    let k = set.2 c.args.turn.place refl in
    let out = ap (λ y. y.1) k.0 ∙ k.1 in
    let first : mid.me.0.first ≡ seat.seat.me.0.first = ap (λ y. y.0.first) k.0 in
    let end : mid.me.0.end ≡ seat.seat.me.0.end = ap (λ y. y.0.end) k.0 in
    let slots : seat.seat.table_id.slots ≡ table.table.shared.table_id.slots = ap (λ n. n.slots) c.requires.table in (
      moved.0 ∙ set.0 ∙ c.requires.table,
      omega (arith, table.words, table.slots, slots, seat.placed, seat.counted, turn.inside),
      frees table.table.shared.table_id.slots _ _ mid.me.0 c.args.turn.place _ true c.args.tile
          (moved.3 ∙ ap (λ xs. (mid.me.0, (c.args.turn.place, Some c.args.tile) ∷ xs)) (ap rest out))
          (omega (arith, seat.live, seat.numbered, first, end)) (ap (λ y. y.0.hand) k.0)
          (subst (λ goal. At goal c.args.turn.place c.args.tile) (sym (ap (λ y. y.0.goal) k.0)) c.requires.finished) c.free_lock.ensures,
    )

pub invariant_of-seat : goal.invariant_of-seat
invariant_of-seat g c =
    let seat = c.args.seat.now in
    let k = (c.store.ensures.2 c.args.turn.place refl).0 in
    let moved = c.exchange.ensures in
    let freed = c.store-2.ensures in
    let new = c.store-2.new.seat in
    let view : new.me.0 ≡ with_no_hand (with_mark seat.seat.me.0 c.args.turn.place) = ap (λ y. y.0) freed.2.0 ∙ ap (λ y. with_no_hand y.0) moved.3 ∙ ap (λ y. with_no_hand y.0) k in
    let end : new.me.0.end ≡ seat.seat.me.0.end = ap (λ u. u.end) view in
    record {
      numbered = seat.numbered ∙ sym (ap (λ u. u.first) view);
      live = omega (arith, seat.live, end);
      few = omega (arith, seat.few, end);
      counted = seat.counted ∙ sym (ap (λ u. length u.world) view);
      placed = ap (λ n. n.slots) (freed.0 ∙ moved.0 ∙ c.store.ensures.0) ∙ seat.placed;
      slots = fits-none new.me.0.hand new.me.1 (ap (λ u. u.hand) view) (ap (λ y. y.1) freed.2.0);
    }
