use Rattle.tile_geometry.specs.Grid.{grid_tile}
use Rattle.tile_geometry.proofs.GridLaws.{grid_counted}
use Rattle.tile_geometry.proofs.grid.tile_of.Goals as goal

pub returns-clause-counted : goal.returns-clause-counted
unfolding grid_tile
returns-clause-counted c =
    rw (c.row.ensures.value, c.columns.ensures.value, c.column.ensures.value) (grid_counted c.args.level c.args.p c.requires.place)
