use Rattle.std.proofs.Common.{refl}
use Rattle.tile_table.proofs.table.TileTable.new.Goals as goal

pub made-requires : goal.made-requires
made-requires g c κs within =
    let tiles = c.args.tiles.items in
    let asked = c.requires in
    (within.0, (within.1.0, (within.1.1, (asked.some, (asked.few, (asked.some_workers, (asked.few_workers, (g.P.Phase.finished c.args.phase.now tiles, g.met.P.Phase.as_many c.args.phase.now tiles asked.fits, refl))))))))

pub returns-clause-view : goal.returns-clause-view
returns-clause-view g c = c.made.ensures.view
