use Rattle.tile_geometry.proofs.GridLaws.{tile_holds}
use Rattle.tile_geometry.proofs.grid.tile_holds_place.Goals as goal

pub returns : goal.returns
returns c = tile_holds
