use Rattle.std.proofs.Common.{sym, subst, arith}
use Rattle.atomic_table.specs.Table.{Splits}
use Rattle.tile_table.specs.Views.{lower, upper}
use Rattle.tile_table.specs.Shows.{Shows}
use Rattle.tile_table.proofs.Cutting.{splits}
use Rattle.tile_table.proofs.table.TileTable.split_by.Goals as goal

pub split_seat-new-requires : goal.split_seat-new-requires
split_seat-new-requires g c =
    let seat = c.args.seat.now in
    let table = c.args.self.now in
    let v = seat.seat.me.0 in (
      c.requires.table,
      omega (arith, table.words, table.some),
      subst (λ n. Splits Shows seat.seat.id v (lower n v) (upper n v)) (sym c.requires.number) (splits seat.seat.id v c.args.at c.requires.above c.requires.below),
    )
