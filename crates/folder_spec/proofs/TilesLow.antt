-- Tile numbers fit their bits.
use Rattle.std.proofs.Common.{ℕ, ◌+◌, ◌*◌, ◌<◌, Bool, true, false, cond, arith}
use Rattle.std.specs.Prelude.{◌-◌, ◌/◌, min, ◌==◌}
use Rattle.fixed_geo.specs.declared.points.Point.{Point}
use Rattle.tile_geometry.specs.Grid.{grid_tile, row_of, column_of, from_south, from_west, tile_units}

sized : (a b c d : ℕ) (p q : Bool) → min a (cond p 45 (cond q 180 720) - 1) * cond p 90 (cond q 360 1440) + min b (cond p 90 (cond q 360 1440) - 1) < 4_194_304
sized a b c d true q = omega arith
sized a b c d false true = omega arith
sized a b c d false false = omega arith

pub tiles_low : (k : ℕ) (p : Point) → grid_tile k p < 4_194_304
unfolding grid_tile row_of column_of
tiles_low k p = sized (from_south p / tile_units k) (from_west p / tile_units k) 0 0 (k == 0) (k == 1)
