use Rattle.tile_table.specs.Views.{opening_view}
use Rattle.tile_table.proofs.table.TileTable.new.Given as goal

abbrev pub ghost-made : goal.ghost-made
ghost-made g a = opening_view a.tiles.items (g.P.Phase.finished a._phase.now a.tiles.items) a.workers
