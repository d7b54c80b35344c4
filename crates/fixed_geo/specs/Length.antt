-- The length of a segment between two points, over numbers without bounds. Divisions round down.
use Rattle.std.specs.Prelude.{ℕ, ◌+◌, ◌-◌, ◌*◌, ◌/◌, ◌^◌, ◌≤◌, ℤ, ◌+ℤ◌, ◌-ℤ◌, min, unsigned_abs}
use Rattle.fixed_geo.specs.declared.points.Point.{Point}
use Rattle.fixed_geo.specs.Root.{whole_root_of}

-- a quarter of the way round the earth: 90 degrees, in units
abbrev pub quarter : ℕ
quarter = 900_000_000

-- how far from the equator two points are in the mean: half the sum of their latitudes, without its sign
unfoldable pub mean_latitude : Point → Point → ℕ
mean_latitude a b = unsigned_abs (a.lat +ℤ b.lat) / 2

-- the cosine of a latitude x, scaled by 2^20: the approximation 4 (A^2 - x^2) / (4 A^2 + x^2), where A is a quarter
unfoldable pub cosine_of : ℕ → ℕ
cosine_of x = 2 ^ 20 * 4 * (quarter * quarter - x * x) / (4 * (quarter * quarter) + x * x)

-- the difference of two latitudes
unfoldable pub latitude_difference : Point → Point → ℕ
latitude_difference a b = unsigned_abs (a.lat -ℤ b.lat)

-- the shorter of the two ways round that a difference of longitudes leaves
unfoldable pub short_way : ℕ → ℕ
short_way difference = min difference (4 * quarter - difference)

-- the difference of two longitudes, the short way round
unfoldable pub longitude_difference : Point → Point → ℕ
longitude_difference a b = short_way (unsigned_abs (a.lon -ℤ b.lon))

-- the way from west to east, in units of latitude: a difference of longitudes shrinks by the cosine
unfoldable pub west_east : Point → Point → ℕ
west_east a b = longitude_difference a b * cosine_of (mean_latitude a b) / 2 ^ 20

-- the square of the length in units of latitude, by Pythagoras
unfoldable pub square_length : Point → Point → ℕ
square_length a b =
    west_east a b * west_east a b + latitude_difference a b * latitude_difference a b

-- the length in centimetres: a unit of latitude is 1.1132 cm
unfoldable pub length_cm : Point → Point → ℕ
length_cm a b = whole_root_of (square_length a b) * 11132 / 10000

-- at most 0.02 degrees apart on each axis
pub record IsNear (a b : Point) : Type 0 where
  pub latitudes : latitude_difference a b ≤ 200_000
  pub longitudes : longitude_difference a b ≤ 200_000

-- the point of a latitude on the meridian of a longitude
unfoldable pub on_meridian : ℤ → ℤ → Point
on_meridian lat lon = record { lat = lat; lon = lon }
