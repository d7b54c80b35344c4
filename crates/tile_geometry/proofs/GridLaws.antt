-- Laws of the grid of tiles.
use Rattle.std.proofs.Common.{◌≡◌, ◌≢◌, ℕ, ◌+◌, ◌-◌, ◌*◌, ◌/◌, ◌<◌, ◌≤◌, ℤ, pos, ◌+ℤ◌, ◌-ℤ◌, ◌≤ℤ◌, inl, inr, min, ap, ◌∙◌, arith}
use Rattle.std.specs.Prelude.{◌<ℤ◌}
use Rattle.std.proofs.lemmas.Bool.{cases_lt}
use Rattle.std.proofs.lemmas.Bool.Decides.{nat_tests}
use Rattle.std.proofs.lemmas.Int.{ints}
use Rattle.std.proofs.lemmas.Nat.{div-add-mod', mod_below, div-mul-add, mod-mul-add, mul-add-lt}
use Rattle.std.proofs.Math.Nat.{mul-le-mul_right}
use Rattle.fixed_geo.specs.declared.points.Point.{Point}
use Rattle.fixed_geo.specs.Place.{IsPlace}
use Rattle.tile_geometry.specs.Grid.{tile_units, columns, rows, tile_count, from_south, from_west, row_of, column_of, grid_tile, corner, Holds}

-- the tiles of a level cover the earth from pole to pole and all round
record Covers (level : ℕ) : Type 0 where
  unit : 0 < tile_units level
  some_columns : 0 < columns level
  some_rows : 0 < rows level
  poles : rows level * tile_units level ≡ 1_800_000_000
  round : columns level * tile_units level ≡ 3_600_000_000

covers : (level : ℕ) → Covers level
covers level = record {
  unit = grind (arith, nat_tests);
  some_columns = grind (arith, nat_tests);
  some_rows = grind (arith, nat_tests);
  poles = grind (arith, nat_tests);
  round = grind (arith, nat_tests);
}

-- a distance n lies in the tile at a place of a line of tiles of u units, at its end only at the line's end
record OnLine (n u count place : ℕ) : Type 0 where
  counted : place < count
  start : place * u ≤ n
  end : n ≤ place * u + u
  within : n ≢ count * u → n < place * u + u

-- at the line's end the place is the last one
last_place : (n u count k : ℕ) → 0 < u → count ≡ k + 1 → n ≡ count * u → OnLine n u count k
last_place n u count k unit e at_end =
    let whole : count * u ≡ (k + 1) * u = ap (λ x. x * u) e in
    record {
      counted = omega arith;
      start = omega arith;
      end = omega arith;
      within = λ before. absurd (before at_end);
    }

-- the place by the quotient, and the last one at the line's end
on_line : (n u count : ℕ) → 0 < u → 0 < count → n ≤ count * u → OnLine n u count (min (n / u) (count - 1))
on_line n u count unit some fits =
    elim (cases_lt (n / u) count) [
      | inl h ↦ let e : min (n / u) (count - 1) ≡ n / u = omega arith in rw e (record {
        counted = h;
        start = omega (arith, div-add-mod' n u);
        end = omega (arith, div-add-mod' n u, mod_below n u unit);
        within = λ _. omega (arith, div-add-mod' n u, mod_below n u unit);
      })
      | inr h ↦
          let e : min (n / u) (count - 1) ≡ count - 1 = omega arith in
          let filled : count * u ≤ n / u * u = mul-le-mul_right u h in
          rw e (last_place n u count (count - 1) unit (omega arith) (omega (arith, div-add-mod' n u, filled)))
    ]

-- the distances of a place from the south pole and from the meridian of -180 degrees
south_distance : (p : Point) → IsPlace p → p.lat +ℤ pos 900_000_000 ≡ pos (from_south p)
south_distance p h = grind (arith, ints)

west_distance : (p : Point) → IsPlace p → p.lon +ℤ pos 1_800_000_000 ≡ pos (from_west p)
west_distance p h = grind (arith, ints)

-- they are at most the whole
south_le : (p : Point) → IsPlace p → from_south p ≤ 1_800_000_000
south_le p h = grind (arith, ints)

west_le : (p : Point) → IsPlace p → from_west p ≤ 3_600_000_000
west_le p h = grind (arith, ints)

row_line : (level : ℕ) (p : Point) → IsPlace p → OnLine (from_south p) (tile_units level) (rows level) (row_of level p)
unfolding row_of
row_line level p h =
    let all = covers level in
    on_line (from_south p) (tile_units level) (rows level) all.unit all.some_rows (rw all.poles (south_le p h))

column_line : (level : ℕ) (p : Point) → IsPlace p → OnLine (from_west p) (tile_units level) (columns level) (column_of level p)
unfolding column_of
column_line level p h =
    let all = covers level in
    on_line (from_west p) (tile_units level) (columns level) all.unit all.some_columns (rw all.round (west_le p h))

-- the corner of a place's tile, on both axes
corner_lat : (level : ℕ) (p : Point) → IsPlace p → (corner level (grid_tile level p)).lat ≡ pos (row_of level p * tile_units level) -ℤ pos 900_000_000
unfolding corner grid_tile
corner_lat level p h = ap (λ r. pos (r * tile_units level) -ℤ pos 900_000_000) (div-mul-add (row_of level p) (columns level) (column_of level p) (column_line level p h).counted)

corner_lon : (level : ℕ) (p : Point) → IsPlace p → (corner level (grid_tile level p)).lon ≡ pos (column_of level p * tile_units level) -ℤ pos 1_800_000_000
unfolding corner grid_tile
corner_lon level p h = ap (λ c. pos (c * tile_units level) -ℤ pos 1_800_000_000) (mod-mul-add (row_of level p) (columns level) (column_of level p) (column_line level p h).counted)

-- a coordinate z is n units above its least value, which is `half` below 0
axis_start : (z : ℤ) (n k half : ℕ) → z +ℤ pos half ≡ pos n → k ≤ n → (pos k -ℤ pos half) ≤ℤ z
axis_start z n k half e h = omega (arith, ints)

axis_end : (z : ℤ) (n k u half : ℕ) → z +ℤ pos half ≡ pos n → n ≤ k + u → z ≤ℤ ((pos k -ℤ pos half) +ℤ pos u)
axis_end z n k u half e h = omega (arith, ints)

axis_within : (z : ℤ) (n k u half : ℕ) → z +ℤ pos half ≡ pos n → n < k + u → z <ℤ ((pos k -ℤ pos half) +ℤ pos u)
axis_within z n k u half e h = omega (arith, ints)

-- a coordinate that isn't at its greatest value isn't at the line's end
not_at_end : (z : ℤ) (n half : ℕ) → z +ℤ pos half ≡ pos n → z ≢ pos half → n ≢ 2 * half
not_at_end z n half e h at_end = h (omega (arith, ints))

-- the tile of a place is one of the level
pub grid_counted : (level : ℕ) (p : Point) → IsPlace p → grid_tile level p < tile_count level
unfolding grid_tile
grid_counted level p h = mul-add-lt (row_of level p) (columns level) (column_of level p) (rows level) (row_line level p h).counted (column_line level p h).counted

-- the tile of a place holds it
pub tile_holds : (level : ℕ) (p : Point) → level ≤ 2 → IsPlace p → Holds level (grid_tile level p) p
tile_holds level p l h =
    let all = covers level in
    let row = row_line level p h in
    let column = column_line level p h in
    let north = south_distance p h in
    let east = west_distance p h in
    record {
      counted = grid_counted level p h;
      south = rw corner_lat (axis_start p.lat _ _ _ north row.start);
      west = rw corner_lon (axis_start p.lon _ _ _ east column.start);
      north = rw corner_lat (axis_end p.lat _ _ _ _ north row.end);
      east = rw corner_lon (axis_end p.lon _ _ _ _ east column.end);
      below_north = λ inside. rw corner_lat (axis_within p.lat _ _ _ _ north (row.within (λ e. not_at_end p.lat _ _ north inside (e ∙ all.poles))));
      below_east = λ inside. rw corner_lon (axis_within p.lon _ _ _ _ east (column.within (λ e. not_at_end p.lon _ _ east inside (e ∙ all.round))));
    }
