use Rattle.std.proofs.Common.{◌∙◌}
use Rattle.tile_numbers_tests.proofs.WorkedCan.{tiles_can}
use Rattle.tile_numbers_tests.proofs.worked.numbered_worked.Goals as goal

pub of_tiles-requires : goal.of_tiles-requires
of_tiles-requires c = (tiles_can c.deref.result.now (c.deref.ensures.value ∙ c.in_ok-tiles.ensures)).rise

pub number_tile-requires-clause-tiles : goal.number_tile-requires-clause-tiles
number_tile-requires-clause-tiles c = tiles_can c.deref-2.result.now (c.deref-2.ensures.value ∙ c.in_ok-tiles.ensures)
