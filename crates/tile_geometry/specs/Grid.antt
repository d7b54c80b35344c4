-- The grid of tiles on the hierarchy levels 0, 1 and 2; the definitions are read on these levels alone.
-- Tiles are numbered from 0 row by row from the south-west corner.
use Rattle.std.specs.Prelude.{ℕ, ◌+◌, ◌-◌, ◌*◌, ◌/◌, ◌%◌, ◌<◌, ◌≤◌, ◌≢◌, pos, ◌+ℤ◌, ◌-ℤ◌, ◌≤ℤ◌, ◌<ℤ◌, min, unsigned_abs, nat_le, if◌then◌else◌, ◌==◌}
use Rattle.fixed_geo.specs.declared.points.Point.{Point}

-- the side of a tile of a level, in units: 4 degrees, 1 degree, a quarter of a degree
abbrev pub tile_units : ℕ → ℕ
tile_units level = if level == 0 then 40_000_000 else (if level == 1 then 10_000_000 else 2_500_000)

-- how many tiles stand side by side round the earth
abbrev pub columns : ℕ → ℕ
columns level = if level == 0 then 90 else (if level == 1 then 360 else 1440)

-- how many tiles stand from pole to pole
abbrev pub rows : ℕ → ℕ
rows level = if level == 0 then 45 else (if level == 1 then 180 else 720)

-- how many tiles a level has
abbrev pub tile_count : ℕ → ℕ
tile_count level = columns level * rows level

-- how far a place is from the south pole and from the meridian of -180 degrees, in units
abbrev pub from_south : Point → ℕ
from_south p = unsigned_abs (p.lat +ℤ pos 900_000_000)

abbrev pub from_west : Point → ℕ
from_west p = unsigned_abs (p.lon +ℤ pos 1_800_000_000)

-- the row of a place; latitude 90 goes to the last row
unfoldable pub row_of : ℕ → Point → ℕ
row_of level p = min (from_south p / tile_units level) (rows level - 1)

-- the column of a place; longitude 180 goes to the last column
unfoldable pub column_of : ℕ → Point → ℕ
column_of level p = min (from_west p / tile_units level) (columns level - 1)

-- the number of the tile of a place
unfoldable pub grid_tile : ℕ → Point → ℕ
grid_tile level p = row_of level p * columns level + column_of level p

-- the south-west corner of a tile
unfoldable pub corner : ℕ → ℕ → Point
corner level tile = record {
  lat = pos (tile / columns level * tile_units level) -ℤ pos 900_000_000;
  lon = pos (tile % columns level * tile_units level) -ℤ pos 1_800_000_000;
}

-- a level and a number of a tile on it
pub record IsTile (level tile : ℕ) : Type 0 where
  pub level_exists : level ≤ 2
  pub counted : tile < tile_count level

-- the tile is one of the level, its south-west corner is at or below the place on both axes, and less than
-- one tile away: at most one tile at the north pole and on the meridian of 180 degrees
pub record Holds (level tile : ℕ) (p : Point) : Type 0 where
  pub counted : tile < tile_count level
  pub south : (corner level tile).lat ≤ℤ p.lat
  pub west : (corner level tile).lon ≤ℤ p.lon
  pub north : p.lat ≤ℤ ((corner level tile).lat +ℤ pos (tile_units level))
  pub east : p.lon ≤ℤ ((corner level tile).lon +ℤ pos (tile_units level))
  pub below_north : p.lat ≢ pos 900_000_000 → p.lat <ℤ ((corner level tile).lat +ℤ pos (tile_units level))
  pub below_east : p.lon ≢ pos 1_800_000_000 → p.lon <ℤ ((corner level tile).lon +ℤ pos (tile_units level))

-- the level of a road class: motorways, trunk and primary roads on 0, secondary and tertiary ones on 1, the others on 2
abbrev pub class_level : ℕ → ℕ
class_level class = if nat_le class 2 then 0 else (if nat_le class 4 then 1 else 2)
