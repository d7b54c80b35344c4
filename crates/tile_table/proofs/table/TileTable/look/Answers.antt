use Rattle.std.proofs.Common.{ap, ◌∙◌}
use Rattle.tile_table.specs.Seats.{view}
use Rattle.tile_table.proofs.Told.{part-seen}
use Rattle.tile_table.proofs.table.TileTable.look.Goals as goal

pub returns-in-Ok-part-clause-seen : goal.returns-in-Ok-part-clause-seen
returns-in-Ok-part-clause-seen g c =
    let readable = g.P.Phase.readable c.args.phase.now in
    part-seen readable (view c.args.seat.now) (view c.reached.new.seat) c.args.j c.in-Ok.turn c.in-Ok-part.part c.in-Ok.ensures.turn (c.in-Ok-part.ensures ∙ ap readable c.tile.ensures)
