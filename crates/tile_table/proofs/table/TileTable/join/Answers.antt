use Rattle.std.proofs.Common.{◌≡◌, ap, ◌∙◌, arith}
use Rattle.tile_table.proofs.Cutting.{joins}
use Rattle.tile_table.proofs.Told.{none-out}
use Rattle.tile_table.proofs.table.TileTable.join.Goals as goal

pub join_seat-requires : goal.join_seat-requires
join_seat-requires g c =
    let seat = c.args.seat.now in
    let table = c.args.self.now in
    let other = c.args.other in
    let its = c.into_place-other.result in
    let is = c.into_place-other.ensures in
    let first : its.me.0.first ≡ other.seat.me.0.first = ap (λ p. p.me.0.first) is in
    let end : its.me.0.end ≡ other.seat.me.0.end = ap (λ p. p.me.0.end) is in (
      c.requires.table,
      ap (λ p. p.table_id) is ∙ c.requires.other_table,
      ap (λ p. p.me.1) is ∙ none-out other.seat.me.0.hand other.seat.me.1 c.requires.hand other.slots,
      omega (arith, table.words, table.some),
      joins seat.seat.id its.id seat.seat.me.0 its.me.0 (omega (arith, seat.live, seat.numbered)) (omega (arith, first, end, other.live, other.numbered)) (first ∙ c.requires.next) (ap (λ p. p.me.0.hand) is ∙ c.requires.hand),
    )
