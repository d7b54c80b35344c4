-- The tile of a level in which a tile of level 2 lies, for places on the earth.
use Rattle.std.proofs.Common.{◌≡◌, ℕ, zero, suc, ◌+◌, ◌*◌, ◌/◌, ◌%◌, ◌<◌, ◌≤◌, min, ℤ, pos, Bool, true, false, cond, ◌∙◌, ap, List, [], ◌∷◌, arith, rules, Some}
use Rattle.std.specs.Prelude.{All, find}
use Rattle.std.specs.Option.{option_map_or}
use Rattle.std.specs.Ordering.{int_eq}
use Rattle.std.proofs.lemmas.Int.{ints}
use Rattle.std.proofs.lemmas.List.Elements.{All-head, All-tail}
use Rattle.std.proofs.lemmas.Nat.{div-mul-add, mod-mul-add}
use Rattle.fixed_geo.specs.declared.points.Point.{Point}
use Rattle.fixed_geo.specs.Place.{IsPlace}
use Rattle.osm_model.specs.declared.nodes.OsmNode.{OsmNode}
use Rattle.osm_model.specs.declared.extract.Extract.{Extract}
use Rattle.osm_model.specs.OsmNode.{IsPlaced}
use Rattle.tile_geometry.specs.Grid.{columns, from_south, from_west, row_of, column_of, grid_tile}
use Rattle.road_pieces.specs.Lengths.{point, point_of}
use Rattle.edge_builder.specs.ExtractRows.{node_tile}
use Rattle.hierarchy.specs.Lifted.{tiles_across, tile_over}

-- ---- rows and columns

rows_0 : (s : ℕ) → s ≤ 1_800_000_000 → min (s / 2_500_000) 719 / 16 ≡ min (s / 40_000_000) 44
rows_0 s h = omega arith

rows_1 : (s : ℕ) → s ≤ 1_800_000_000 → min (s / 2_500_000) 719 / 4 ≡ min (s / 10_000_000) 179
rows_1 s h = omega arith

columns_0 : (s : ℕ) → s ≤ 3_600_000_000 → min (s / 2_500_000) 1439 / 16 ≡ min (s / 40_000_000) 89
columns_0 s h = omega arith

columns_1 : (s : ℕ) → s ≤ 3_600_000_000 → min (s / 2_500_000) 1439 / 4 ≡ min (s / 10_000_000) 359
columns_1 s h = omega arith

south_low : (p : Point) → IsPlace p → from_south p ≤ 1_800_000_000
south_low p h = grind (arith, ints)

west_low : (p : Point) → IsPlace p → from_west p ≤ 3_600_000_000
west_low p h = grind (arith, ints)

-- the tile of a level over a row and a column of level 2
over_parts : (k r c : ℕ) → c < 1440 → tile_over k (r * 1440 + c) ≡ r / tiles_across k * columns k + c / tiles_across k
over_parts k r c low =
    ap (λ n. n / tiles_across k * columns k + (r * 1440 + c) % 1440 / tiles_across k) (div-mul-add r 1440 c low)
    ∙ ap (λ n. r / tiles_across k * columns k + n / tiles_across k) (mod-mul-add r 1440 c low)

column_low : (p : Point) → column_of 2 p < 1440
unfolding column_of
column_low p = omega arith

pub over_grid : (k : ℕ) (p : Point) → k ≤ 2 → IsPlace p → tile_over k (grid_tile 2 p) ≡ grid_tile k p
unfolding grid_tile row_of column_of
over_grid zero p h place =
    over_parts 0 (row_of 2 p) (column_of 2 p) (column_low p)
    ∙ (ap (λ r. r * 90 + column_of 2 p / 16) (rows_0 (from_south p) (south_low p place)) ∙ ap (λ c. row_of 0 p * 90 + c) (columns_0 (from_west p) (west_low p place)))
over_grid (suc zero) p h place =
    over_parts 1 (row_of 2 p) (column_of 2 p) (column_low p)
    ∙ (ap (λ r. r * 360 + column_of 2 p / 4) (rows_1 (from_south p) (south_low p place)) ∙ ap (λ c. row_of 1 p * 360 + c) (columns_1 (from_west p) (west_low p place)))
over_grid (suc (suc zero)) p h place =
    over_parts 2 (row_of 2 p) (column_of 2 p) (column_low p) ∙ omega arith
over_grid (suc (suc (suc k))) p h place = absurd (omega (arith, h))

-- ---- where the nodes of an extract are

node_place : (n : OsmNode) → IsPlaced n → IsPlace (point_of n)
node_place n p = record { from_south = p.from_south; to_north = p.to_north; from_west = p.from_west; to_east = p.to_east }

no_place : IsPlace (record { lat = pos 0; lon = pos 0 })
no_place = record { from_south = search rules; to_north = search rules; from_west = search rules; to_east = search rules }

point_place : (nodes : List OsmNode) (n : ℤ) → All IsPlaced nodes → IsPlace (point nodes n)
point_place [] n all = no_place
point_place (m ∷ ms) n all = by (int_eq m.id n) (point_place ms n (All-tail IsPlaced m ms all))
  where
    by : (b : Bool) → IsPlace (point ms n) → IsPlace (option_map_or point_of (cond b (Some m) (find (λ o. int_eq o.id n) ms)) (record { lat = pos 0; lon = pos 0 }))
    by true rest = node_place m (All-head IsPlaced m ms all)
    by false rest = rest

pub over_node : (x : Extract) (k : ℕ) (n : ℤ) → k ≤ 2 → tile_over k (node_tile x 2 n) ≡ node_tile x k n
over_node x k n h = over_grid k (point x.nodes n) h (point_place x.nodes n x.placed)
