-- Places that are near each other lie in cells that are beside each other.
use Rattle.std.proofs.Common.{◌≡◌, ℕ, ◌+◌, ◌-◌, ◌*◌, ◌/◌, ◌%◌, ◌<◌, ◌≤◌, ◌-ℤ◌, true, refl, sym, ap, ◌∙◌, inl, inr, arith}
use Rattle.std.specs.Prelude.{min, unsigned_abs, ◌⊎◌, nat_le}
use Rattle.std.proofs.lemmas.Int.{ints}
use Rattle.std.proofs.lemmas.Bool.{and_parts, cases_lt, cases_eq, leb-true}
use Rattle.fixed_geo.specs.declared.points.Point.{Point}
use Rattle.fixed_geo.specs.Place.{IsPlace}
use Rattle.fixed_geo.specs.Length.{latitude_difference, longitude_difference, short_way}
use Rattle.tile_geometry.specs.Grid.{from_south, from_west}
use Rattle.enhancer.specs.Cells.{geo_cell, near_cell}
use Rattle.enhancer.specs.Density.{is_near}
use Rattle.enhancer.proofs.Beside.{apart, gap}

row_step : (r t : ℕ) → r ≤ 9000 → t ≤ 9000 → r ≤ t + 1 → t ≤ r + 1 → (k : ℕ) × (k < 3) × ((t + 19_999 + k) % 20_000 ≡ r)
row_step r t hr ht up down = elim (cases_lt r t) [
  | inl less ↦ (0, omega arith, omega (arith, less, up, down, hr, ht))
  | inr other ↦ elim (cases_lt t r) [
    | inl more ↦ (2, omega arith, omega (arith, more, up, down, hr, ht))
    | inr same ↦ (1, omega arith, omega (arith, same, other, hr, ht))
  ]
]

column_step : (c d : ℕ) → c < 18_000 → d < 18_000 → ((c ≤ d + 1) × (d ≤ c + 1)) ⊎ (((c ≡ 0) × (d ≡ 17_999)) ⊎ ((c ≡ 17_999) × (d ≡ 0))) → (k : ℕ) × (k < 3) × ((d + 17_999 + k) % 18_000 ≡ c)
column_step c d hc hd near = elim near [
  | inl close ↦ elim (cases_lt c d) [
    | inl less ↦ (0, omega arith, omega (arith, less, close.0, close.1, hc, hd))
    | inr other ↦ elim (cases_lt d c) [
      | inl more ↦ (2, omega arith, omega (arith, more, close.0, close.1, hc, hd))
      | inr same ↦ (1, omega arith, omega (arith, same, other, hc, hd))
    ]
  ]
  | inr round ↦ elim round [
    | inl first ↦ (2, omega arith, omega (arith, first.0, first.1))
    | inr last ↦ (0, omega arith, omega (arith, last.0, last.1))
  ]
]

less_than : (x y : ℕ) → x ≤ y → (x ≡ y → ⊥) → x < y
less_than x y h other = omega (arith, h, other)

-- numbers up to 18,000 that are one apart at most, where 18,000 is 0 again
ring : (x y : ℕ) → x ≤ 18_000 → y ≤ 18_000 → x ≤ y + 1 → y ≤ x + 1
    → ((x % 18_000 ≤ y % 18_000 + 1) × (y % 18_000 ≤ x % 18_000 + 1)) ⊎ (((x % 18_000 ≡ 0) × (y % 18_000 ≡ 17_999)) ⊎ ((x % 18_000 ≡ 17_999) × (y % 18_000 ≡ 0)))
ring x y hx hy up down = elim (cases_lt x 18_000) [
  | inl x_in ↦ elim (cases_lt y 18_000) [
    | inl y_in ↦ inl (omega (arith, x_in, y_in, up, down), omega (arith, x_in, y_in, up, down))
    | inr y_end ↦ elim (cases_eq x 17_999) [
      | inl e ↦ inr (inr (omega (arith, e), omega (arith, y_end, hy)))
      | inr other ↦ absurd (other (omega (arith, x_in, y_end, hy, up, down)))
    ]
  ]
  | inr x_end ↦ elim (cases_lt y 18_000) [
    | inl y_in ↦ inr (inl (omega (arith, x_end, hx), omega (arith, x_end, hx, y_in, up, down)))
    | inr y_end ↦ inl (omega (arith, x_end, hx, y_end, hy), omega (arith, x_end, hx, y_end, hy))
  ]
]

below_end : (x : ℕ) → 3_599_800_000 ≤ x → x ≤ 3_600_000_000 → (x ≡ 3_600_000_000 → ⊥) → x / 200_000 ≡ 17_999
below_end x low high other = let less = less_than x 3_600_000_000 high other in omega (arith, low, less)

first_one : (x y : ℕ) → 3_600_000_000 + y ≤ x + 200_000 → x ≤ 3_600_000_000 → (x ≡ 3_600_000_000 → ⊥) → y / 200_000 ≡ 0
first_one x y h high other = let less = less_than x 3_600_000_000 high other in omega (arith, h, less)

columns_near : (x y d : ℕ) → x ≤ 3_600_000_000 → y ≤ 3_600_000_000 → (x ≡ y + d) ⊎ (y ≡ x + d) → min d (3_600_000_000 - d) ≤ 200_000
    → ((x / 200_000 % 18_000 ≤ y / 200_000 % 18_000 + 1) × (y / 200_000 % 18_000 ≤ x / 200_000 % 18_000 + 1))
    ⊎ (((x / 200_000 % 18_000 ≡ 0) × (y / 200_000 % 18_000 ≡ 17_999)) ⊎ ((x / 200_000 % 18_000 ≡ 17_999) × (y / 200_000 % 18_000 ≡ 0)))
columns_near x y d hx hy gaps near = elim (cases_lt 200_000 d) [
  | inr close ↦ elim gaps [
    | inl e ↦ ring (x / 200_000) (y / 200_000) (omega (arith, hx)) (omega (arith, hy)) (omega (arith, e, close)) (omega (arith, e, close))
    | inr e ↦ ring (x / 200_000) (y / 200_000) (omega (arith, hx)) (omega (arith, hy)) (omega (arith, e, close)) (omega (arith, e, close))
  ]
  | inl far ↦ elim gaps [
    | inl e ↦ elim (cases_eq x 3_600_000_000) [
      | inl end ↦
          let xs : x / 200_000 ≡ 18_000 = omega (arith, end) in
          let ys : y / 200_000 ≤ 1 = omega (arith, hx, e, near, far) in
          inl (omega (arith, xs, ys), omega (arith, xs, ys))
      | inr other ↦
          let xs : x / 200_000 ≡ 17_999 = below_end x (omega (arith, hx, hy, e, near, far)) hx other in
          let ys : y / 200_000 ≡ 0 = first_one x y (omega (arith, hx, e, near, far)) hx other in
          inr (inr (omega (arith, xs), omega (arith, ys)))
    ]
    | inr e ↦ elim (cases_eq y 3_600_000_000) [
      | inl end ↦
          let ys : y / 200_000 ≡ 18_000 = omega (arith, end) in
          let xs : x / 200_000 ≤ 1 = omega (arith, hy, e, near, far) in
          inl (omega (arith, xs, ys), omega (arith, xs, ys))
      | inr other ↦
          let ys : y / 200_000 ≡ 17_999 = below_end y (omega (arith, hx, hy, e, near, far)) hy other in
          let xs : x / 200_000 ≡ 0 = first_one y x (omega (arith, hy, e, near, far)) hy other in
          inr (inl (omega (arith, xs), omega (arith, ys)))
    ]
  ]
]

third : (a b : ℕ) → a < 3 → b < 3 → ((3 * a + b + 5) % 9 < 9) × (((3 * a + b + 5) % 9 + 4) % 9 / 3 ≡ a) × (((3 * a + b + 5) % 9 + 4) % 9 % 3 ≡ b)
third a b ha hb =
    let all : ((3 * a + b + 5) % 9 + 4) % 9 ≡ 3 * a + b = omega (arith, ha, hb) in
    (omega arith, omega (arith, all, ha, hb), omega (arith, all, ha, hb))

parts_of : (r c : ℕ) → c < 18_000 → ((r * 18_000 + c) / 18_000 ≡ r) × ((r * 18_000 + c) % 18_000 ≡ c)
parts_of r c hc = (omega (arith, hc), omega (arith, hc))

one_of : (t u r c s d a b : ℕ) → t ≡ r * 18_000 + c → u ≡ s * 18_000 + d → d < 18_000 → a < 3 → b < 3
    → (s + 19_999 + a) % 20_000 ≡ r → (d + 17_999 + b) % 18_000 ≡ c → near_cell u ((3 * a + b + 5) % 9) ≡ t
unfolding near_cell
one_of t u r c s d a b et eu hd ha hb er ec =
    let thirds = third a b ha hb in
    let parts = parts_of s d hd in
    let row : u / 18_000 ≡ s = ap (λ n. n / 18_000) eu ∙ parts.0 in
    let column : u % 18_000 ≡ d = ap (λ n. n % 18_000) eu ∙ parts.1 in
    (λ i. (row i + 19_999 + thirds.1 i) % 20_000 * 18_000 + (column i + 17_999 + thirds.2 i) % 18_000)
    ∙ (λ i. er i * 18_000 + ec i) ∙ sym et

abbrev cell_row : Point → ℕ
cell_row p = from_south p / 200_000 % 20_000

abbrev cell_column : Point → ℕ
cell_column p = from_west p / 200_000 % 18_000

cell_is : (p : Point) → geo_cell p ≡ cell_row p * 18_000 + cell_column p
unfolding geo_cell
cell_is p = refl

rows_near : (x y : ℕ) → x ≤ 1_800_000_000 → y ≤ 1_800_000_000 → x ≤ y + 200_000 → y ≤ x + 200_000
    → (x / 200_000 % 20_000 ≤ 9000) × (y / 200_000 % 20_000 ≤ 9000) × (x / 200_000 % 20_000 ≤ y / 200_000 % 20_000 + 1) × (y / 200_000 % 20_000 ≤ x / 200_000 % 20_000 + 1)
rows_near x y hx hy up down =
    let xs : x / 200_000 % 20_000 ≡ x / 200_000 = omega (arith, hx) in
    let ys : y / 200_000 % 20_000 ≡ y / 200_000 = omega (arith, hy) in
    (omega (arith, xs, hx), omega (arith, ys, hy), omega (arith, xs, ys, up, down), omega (arith, xs, ys, up, down))

pub cells_near : (p q : Point) → IsPlace p → IsPlace q → is_near p q ≡ true → (k : ℕ) × (k < 9) × (near_cell (geo_cell q) k ≡ geo_cell p)
unfolding is_near latitude_difference longitude_difference short_way
cells_near p q hp hq near =
    let both = and_parts (nat_le (latitude_difference p q) 200_000) (nat_le (longitude_difference p q) 200_000) near in
    let north : unsigned_abs (p.lat -ℤ q.lat) ≤ 200_000 = leb-true (latitude_difference p q) 200_000 both.0 in
    let east : min (unsigned_abs (p.lon -ℤ q.lon)) (3_600_000_000 - unsigned_abs (p.lon -ℤ q.lon)) ≤ 200_000 = leb-true (longitude_difference p q) 200_000 both.1 in
    let south = apart p.lat q.lat 900_000_000 hp.from_south hq.from_south in
    let ps_in : from_south p ≤ 1_800_000_000 = omega (arith, ints, hp.from_south, hp.to_north) in
    let qs_in : from_south q ≤ 1_800_000_000 = omega (arith, ints, hq.from_south, hq.to_north) in
    let rows = rows_near (from_south p) (from_south q) ps_in qs_in (omega (arith, south.0, north)) (omega (arith, south.1, north)) in
    let west = gap p.lon q.lon 1_800_000_000 hp.from_west hq.from_west in
    let x_in : from_west p ≤ 3_600_000_000 = omega (arith, ints, hp.from_west, hp.to_east) in
    let y_in : from_west q ≤ 3_600_000_000 = omega (arith, ints, hq.from_west, hq.to_east) in
    let columns = columns_near (from_west p) (from_west q) (unsigned_abs (p.lon -ℤ q.lon)) x_in y_in west east in
    let a = row_step (cell_row p) (cell_row q) rows.0 rows.1 rows.2 rows.3 in
    let b = column_step (cell_column p) (cell_column q) (omega arith) (omega arith) columns in (
      (3 * a.0 + b.0 + 5) % 9,
      (third a.0 b.0 a.1 b.1).0,
      one_of (geo_cell p) (geo_cell q) (cell_row p) (cell_column p) (cell_row q) (cell_column q) a.0 b.0 (cell_is p) (cell_is q) (omega arith) a.1 b.1 a.2 b.2,
    )

same_parts : (a b c d : ℕ) → b < 18_000 → d < 18_000 → a * 18_000 + b ≡ c * 18_000 + d → (a ≡ c) × (b ≡ d)
same_parts a b c d hb hd e = (omega (arith, hb, hd, e), omega (arith, hb, hd, e))

same_row : (r a b : ℕ) → r < 20_000 → a < 3 → b < 3 → (r + 19_999 + a) % 20_000 ≡ (r + 19_999 + b) % 20_000 → a ≡ b
same_row r a b hr ha hb e = omega (arith, hr, ha, hb, e)

same_column : (c a b : ℕ) → c < 18_000 → a < 3 → b < 3 → (c + 17_999 + a) % 18_000 ≡ (c + 17_999 + b) % 18_000 → a ≡ b
same_column c a b hc ha hb e = omega (arith, hc, ha, hb, e)

turned : (j k : ℕ) → j < 9 → k < 9 → (j + 4) % 9 / 3 ≡ (k + 4) % 9 / 3 → (j + 4) % 9 % 3 ≡ (k + 4) % 9 % 3 → j ≡ k
turned j k hj hk e f = let same : (j + 4) % 9 ≡ (k + 4) % 9 = omega (arith, e, f) in omega (arith, same, hj, hk)

pub cells_differ : (cell j k : ℕ) → cell < 360_000_000 → j < 9 → k < 9 → near_cell cell j ≡ near_cell cell k → j ≡ k
unfolding near_cell
cells_differ cell j k inside hj hk e =
    let parts = same_parts ((cell / 18_000 + 19_999 + (j + 4) % 9 / 3) % 20_000) ((cell % 18_000 + 17_999 + (j + 4) % 9 % 3) % 18_000) ((cell / 18_000 + 19_999 + (k + 4) % 9 / 3) % 20_000) ((cell % 18_000 + 17_999 + (k + 4) % 9 % 3) % 18_000) (omega arith) (omega arith) e in
    let rows = same_row (cell / 18_000) ((j + 4) % 9 / 3) ((k + 4) % 9 / 3) (omega (arith, inside)) (omega arith) (omega arith) parts.0 in
    let columns = same_column (cell % 18_000) ((j + 4) % 9 % 3) ((k + 4) % 9 % 3) (omega arith) (omega arith) (omega arith) parts.1 in
    turned j k hj hk rows columns
