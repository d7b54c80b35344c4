-- How much road is near a place.
use Rattle.std.specs.Prelude.{ℕ, ◌+◌, ◌*◌, ◌/◌, ◌%◌, ◌&&◌, Option, Some, None, Bool, List, [], map, flat_map, sum_by, min, nat_le, if◌then◌else◌}
use Rattle.std.specs.List.{range_with_len}
use Rattle.fixed_geo.specs.declared.points.Point.{Point}
use Rattle.fixed_geo.specs.Length.{latitude_difference, longitude_difference}
use Rattle.work_tile.specs.WorkRows.{WorkNode, WorkRows}
use Rattle.enhancer.specs.declared.spots.Spot.{Spot}
use Rattle.enhancer.specs.Cells.{geo_cell}
use Rattle.enhancer.specs.Graph.{rows_of}

-- two places are near each other: at most 0.02 degrees apart on each axis
unfoldable pub is_near : Point → Point → Bool
is_near a b = nat_le (latitude_difference a b) 200_000 && nat_le (longitude_difference a b) 200_000

-- the length of all edges that start at a node, if it is near the place
abbrev pub cm_if_near : Point → WorkNode → ℕ
cm_if_near at node = if is_near node.at at then sum_by (λ e. e.cm) node.edges else 0

-- .. and of those of all nodes of a tile
unfoldable pub cm_in_tile : Point → WorkRows → ℕ
cm_in_tile at rows = sum_by (cm_if_near at) rows.nodes

-- the length of all edges that start near the place
abbrev pub cm_near : Point → List WorkRows → ℕ
cm_near at ps = sum_by (cm_in_tile at) ps

-- one for each 10 km of them, up to 15
unfoldable pub density_of : Point → List WorkRows → ℕ
density_of at ps = min 15 (cm_near at ps / 1_000_000)

-- a length that is cut where the density is greatest; the density is told from it all the same
abbrev pub cut_cm : ℕ → ℕ
cut_cm cm = min 15_000_000 cm

-- ---- how it is found: by spots, the places of nodes with the lengths of their edges

abbrev pub spot_of : WorkNode → Spot
spot_of node = record { cell = geo_cell node.at; at = node.at; cm = cut_cm (sum_by (λ e. e.cm) node.edges) }

-- the length at a spot, if it is near the place
abbrev pub spot_cm : Point → Spot → ℕ
spot_cm at spot = if is_near spot.at at then spot.cm else 0

-- the tiles that may have a node near one of a tile: three rows of three, where the first column is beside the last one,
-- and so the rows
abbrev pub near_tile : ℕ → ℕ → ℕ
near_tile tile k = (tile / 1440 + 719 + k / 3) % 720 * 1440 + (tile % 1440 + 1439 + k % 3) % 1440

abbrev pub near_tiles : ℕ → List ℕ
near_tiles tile = map (near_tile tile) (range_with_len 0 9)

abbrev pub nodes_in : Option WorkRows → List WorkNode
nodes_in None = []
nodes_in (Some rows) = rows.nodes

-- the spots of a tile of level 2
abbrev pub tile_spots : List ℕ → List WorkRows → ℕ → List Spot
tile_spots places ps tile = map spot_of (nodes_in (rows_of places ps 2 tile))

-- the spots of those tiles
unfoldable pub near_spots : List ℕ → List WorkRows → ℕ → List Spot
near_spots places ps tile = flat_map (tile_spots places ps) (near_tiles tile)
