use Rattle.std.proofs.Common.{refl}
use Rattle.tile_geometry.specs.Grid.{row_of, column_of, grid_tile, corner}
use Rattle.tile_geometry.proofs.grid.worked_tiles.Goals as goal

pub returns-clause-level_2 : goal.returns-clause-level_2
unfolding grid_tile row_of column_of
returns-clause-level_2 c = refl

pub returns-clause-level_1 : goal.returns-clause-level_1
unfolding grid_tile row_of column_of
returns-clause-level_1 c = refl

pub returns-clause-level_0 : goal.returns-clause-level_0
unfolding grid_tile row_of column_of
returns-clause-level_0 c = refl

pub returns-clause-meridian : goal.returns-clause-meridian
unfolding grid_tile row_of column_of
returns-clause-meridian c = refl

pub returns-clause-pole : goal.returns-clause-pole
unfolding grid_tile row_of column_of
returns-clause-pole c = refl

pub returns-clause-corner : goal.returns-clause-corner
unfolding corner
returns-clause-corner c = refl
