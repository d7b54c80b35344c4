use Rattle.std.proofs.Common.{◌∷◌, ap, sym, ◌∙◌}
use Rattle.std.specs.Prelude.{Some}
use Rattle.atomic_table.specs.Table.{rest}
use Rattle.tile_table.proofs.table.TileTable.brought_out.Goals as goal

pub exchange-requires : goal.exchange-requires
exchange-requires g c =
    let slot = c.requires.slot in (
      c.requires.table,
      (Some slot.0, slot.1 ∙ ap (λ xs. (c.args.j, Some slot.0) ∷ xs) (sym (ap rest slot.1))),
    )
