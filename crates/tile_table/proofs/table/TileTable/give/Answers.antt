use Rattle.std.proofs.Common.{◌≡◌, ◌∷◌, ap, sym, ◌∙◌, arith}
use Rattle.std.specs.Prelude.{Some, None}
use Rattle.atomic_table.specs.Table.{rest}
use Rattle.tile_table.proofs.Moves.{frees}
use Rattle.tile_table.proofs.Told.{only-out}
use Rattle.tile_table.proofs.table.TileTable.give.Goals as goal

pub exchange-requires : goal.exchange-requires
exchange-requires g c =
    let seat = c.args.seat.now in
    let o = only-out seat.seat.me.0.hand seat.seat.me.1 c.args.turn.place c.args.turn.marked c.requires.turn.hand seat.slots in
    (c.requires.table, (None, o ∙ ap (λ xs. (c.args.turn.place, None) ∷ xs) (sym (ap rest o))))

pub store-requires : goal.store-requires
store-requires g c =
    let seat = c.args.seat.now in
    let table = c.args.self.now in
    let turn = c.requires.turn in
    let moved = c.exchange.ensures in
    let o = only-out seat.seat.me.0.hand seat.seat.me.1 c.args.turn.place c.args.turn.marked turn.hand seat.slots in
    let slots : seat.seat.table_id.slots ≡ table.table.shared.table_id.slots = ap (λ n. n.slots) c.requires.table in (
      moved.0 ∙ c.requires.table,
      omega (arith, table.words, table.slots, slots, seat.placed, seat.counted, turn.inside),
      frees table.table.shared.table_id.slots _ _ seat.seat.me.0 c.args.turn.place _ c.args.turn.marked c.args.turn.tile
          (moved.3 ∙ ap (λ xs. (seat.seat.me.0, (c.args.turn.place, Some c.args.turn.tile) ∷ xs)) (ap rest o)) (omega (arith, seat.live, seat.numbered)) turn.hand turn.stands c.free_lock.ensures,
    )
