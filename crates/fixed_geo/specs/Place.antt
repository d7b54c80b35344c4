-- Which points are places on the earth.
use Rattle.std.specs.Prelude.{pos, neg_ℤ, ◌≤ℤ◌}
use Rattle.fixed_geo.specs.declared.points.Point.{Point}

-- latitude and longitude in units of 1e-7 degree: from -90 to 90 degrees, and from -180 to 180
pub record IsPlace (p : Point) : Type 0 where
  pub from_south : neg_ℤ (pos 900_000_000) ≤ℤ p.lat
  pub to_north : p.lat ≤ℤ pos 900_000_000
  pub from_west : neg_ℤ (pos 1_800_000_000) ≤ℤ p.lon
  pub to_east : p.lon ≤ℤ pos 1_800_000_000
