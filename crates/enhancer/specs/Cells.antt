-- A grid of cells over the earth, each as wide as places may be apart that are near each other.
use Rattle.std.specs.Prelude.{◌≡◌, ℕ, ◌+◌, ◌*◌, ◌/◌, ◌%◌, List, All}
use Rattle.std.specs.List.Sorted.{IsNonDecreasingBy}
use Rattle.fixed_geo.specs.declared.points.Point.{Point}
use Rattle.tile_geometry.specs.Grid.{from_south, from_west}
use Rattle.enhancer.specs.declared.spots.Spot.{Spot}

-- the number of the cell of a place: 18,000 cells stand round the earth
unfoldable pub geo_cell : Point → ℕ
geo_cell p = from_south p / 200_000 % 20_000 * 18_000 + from_west p / 200_000 % 18_000

-- a cell and the eight beside it; the cell itself comes first
unfoldable pub near_cell : ℕ → ℕ → ℕ
near_cell cell k = (cell / 18_000 + 19_999 + (k + 4) % 9 / 3) % 20_000 * 18_000 + (cell % 18_000 + 17_999 + (k + 4) % 9 % 3) % 18_000

-- spots in order of their cells
pub record InCells (spots : List Spot) : Type 0 where
  pub cells : All (λ s. s.cell ≡ geo_cell s.at) spots
  pub order : IsNonDecreasingBy (λ (s : Spot). s.cell) spots
