-- Places that are near each other lie in tiles of level 2 that are beside each other.
use Rattle.std.proofs.Common.{◌≡◌, ℕ, ◌+◌, ◌-◌, ◌*◌, ◌/◌, ◌%◌, ◌<◌, ◌≤◌, ℤ, pos, neg_ℤ, ◌+ℤ◌, ◌-ℤ◌, ◌≤ℤ◌, true, refl, sym, ap, ◌∙◌, inl, inr, arith}
use Rattle.std.specs.Prelude.{min, unsigned_abs, ◌⊎◌, nat_le}
use Rattle.std.proofs.lemmas.Int.{ints}
use Rattle.std.proofs.lemmas.Bool.{and_parts, cases_lt, leb-true}
use Rattle.fixed_geo.specs.declared.points.Point.{Point}
use Rattle.fixed_geo.specs.Place.{IsPlace}
use Rattle.fixed_geo.specs.Length.{latitude_difference, longitude_difference, short_way}
use Rattle.tile_geometry.specs.Grid.{grid_tile, row_of, column_of, from_south, from_west}
use Rattle.enhancer.specs.Density.{is_near, near_tile}

-- how far apart two places of a line are, from its start
pub apart : (a b : ℤ) (s : ℕ) → neg_ℤ (pos s) ≤ℤ a → neg_ℤ (pos s) ≤ℤ b → (unsigned_abs (a +ℤ pos s) ≤ unsigned_abs (b +ℤ pos s) + unsigned_abs (a -ℤ b)) × (unsigned_abs (b +ℤ pos s) ≤ unsigned_abs (a +ℤ pos s) + unsigned_abs (a -ℤ b))
apart a b s ha hb = (omega (arith, ints, ha, hb), omega (arith, ints, ha, hb))

-- .. and one of them is the difference
pub gap : (a b : ℤ) (s : ℕ) → neg_ℤ (pos s) ≤ℤ a → neg_ℤ (pos s) ≤ℤ b
    → (unsigned_abs (a +ℤ pos s) ≡ unsigned_abs (b +ℤ pos s) + unsigned_abs (a -ℤ b)) ⊎ (unsigned_abs (b +ℤ pos s) ≡ unsigned_abs (a +ℤ pos s) + unsigned_abs (a -ℤ b))
gap a b s ha hb = elim (cases_lt (unsigned_abs (a +ℤ pos s)) (unsigned_abs (b +ℤ pos s))) [
  | inl less ↦ inr (omega (arith, ints, ha, hb, less))
  | inr more ↦ inl (omega (arith, ints, ha, hb, more))
]

-- rows that are one apart at most
row_step : (r t : ℕ) → r < 720 → t < 720 → r ≤ t + 1 → t ≤ r + 1 → (k : ℕ) × (k < 3) × ((t + 719 + k) % 720 ≡ r)
row_step r t hr ht up down = elim (cases_lt r t) [
  | inl less ↦ (0, omega arith, omega (arith, less, up, down, hr, ht))
  | inr other ↦ elim (cases_lt t r) [
    | inl more ↦ (2, omega arith, omega (arith, more, up, down, hr, ht))
    | inr same ↦ (1, omega arith, omega (arith, same, other, hr, ht))
  ]
]

-- columns that are one apart at most, the last beside the first
column_step : (c d : ℕ) → c < 1440 → d < 1440 → ((c ≤ d + 1) × (d ≤ c + 1)) ⊎ (((c ≡ 0) × (d ≡ 1439)) ⊎ ((c ≡ 1439) × (d ≡ 0))) → (k : ℕ) × (k < 3) × ((d + 1439 + k) % 1440 ≡ c)
column_step c d hc hd near = elim near [
  | inl close ↦ elim (cases_lt c d) [
    | inl less ↦ (0, omega arith, omega (arith, less, close.0, close.1, hc, hd))
    | inr other ↦ elim (cases_lt d c) [
      | inl more ↦ (2, omega arith, omega (arith, more, close.0, close.1, hc, hd))
      | inr same ↦ (1, omega arith, omega (arith, same, other, hc, hd))
    ]
  ]
  | inr round ↦ elim round [
    | inl first ↦ (2, omega arith, omega (arith, first.0, first.1))
    | inr last ↦ (0, omega arith, omega (arith, last.0, last.1))
  ]
]

rows_near : (x y : ℕ) → x ≤ y + 200_000 → y ≤ x + 200_000 → (min (x / 2_500_000) 719 ≤ min (y / 2_500_000) 719 + 1) × (min (y / 2_500_000) 719 ≤ min (x / 2_500_000) 719 + 1)
rows_near x y up down = (omega (arith, up, down), omega (arith, up, down))

columns_near : (x y d : ℕ) → x ≤ 3_600_000_000 → y ≤ 3_600_000_000 → (x ≡ y + d) ⊎ (y ≡ x + d) → min d (3_600_000_000 - d) ≤ 200_000
    → ((min (x / 2_500_000) 1439 ≤ min (y / 2_500_000) 1439 + 1) × (min (y / 2_500_000) 1439 ≤ min (x / 2_500_000) 1439 + 1))
    ⊎ (((min (x / 2_500_000) 1439 ≡ 0) × (min (y / 2_500_000) 1439 ≡ 1439)) ⊎ ((min (x / 2_500_000) 1439 ≡ 1439) × (min (y / 2_500_000) 1439 ≡ 0)))
columns_near x y d hx hy gaps near = elim (cases_lt 200_000 d) [
  | inl far ↦ elim gaps [
    | inl e ↦ inr (inr (omega (arith, hx, hy, e, near, far), omega (arith, hx, hy, e, near, far)))
    | inr e ↦ inr (inl (omega (arith, hx, hy, e, near, far), omega (arith, hx, hy, e, near, far)))
  ]
  | inr close ↦ elim gaps [
    | inl e ↦ inl (omega (arith, e, close), omega (arith, e, close))
    | inr e ↦ inl (omega (arith, e, close), omega (arith, e, close))
  ]
]

-- what a tile's number is made of
parts_of : (r c : ℕ) → r < 720 → c < 1440 → ((r * 1440 + c) / 1440 ≡ r) × ((r * 1440 + c) % 1440 ≡ c)
parts_of r c hr hc = (omega (arith, hr, hc), omega (arith, hr, hc))

-- the row and the column of a tile of places
abbrev line_row : Point → ℕ
line_row p = min (from_south p / 2_500_000) 719

abbrev line_column : Point → ℕ
line_column p = min (from_west p / 2_500_000) 1439

tile_is : (p : Point) → grid_tile 2 p ≡ line_row p * 1440 + line_column p
unfolding grid_tile row_of column_of
tile_is p = refl

in_third : (a b : ℕ) → a < 3 → b < 3 → (3 * a + b < 9) × ((3 * a + b) / 3 ≡ a) × ((3 * a + b) % 3 ≡ b)
in_third a b ha hb = (omega (arith, ha, hb), omega (arith, ha, hb), omega (arith, ha, hb))

-- one of the nine
one_of : (t u r c s d a b : ℕ) → t ≡ r * 1440 + c → u ≡ s * 1440 + d → s < 720 → d < 1440 → a < 3 → b < 3
    → (s + 719 + a) % 720 ≡ r → (d + 1439 + b) % 1440 ≡ c → near_tile u (3 * a + b) ≡ t
one_of t u r c s d a b et eu hs hd ha hb er ec =
    let third = in_third a b ha hb in
    let parts = parts_of s d hs hd in
    let row : u / 1440 ≡ s = ap (λ n. n / 1440) eu ∙ parts.0 in
    let column : u % 1440 ≡ d = ap (λ n. n % 1440) eu ∙ parts.1 in
    (λ i. (row i + 719 + third.1 i) % 720 * 1440 + (column i + 1439 + third.2 i) % 1440)
    ∙ (λ i. er i * 1440 + ec i) ∙ sym et

pub beside_near : (p q : Point) → IsPlace p → IsPlace q → is_near p q ≡ true → (k : ℕ) × (k < 9) × (near_tile (grid_tile 2 q) k ≡ grid_tile 2 p)
unfolding is_near latitude_difference longitude_difference short_way
beside_near p q hp hq near =
    let both = and_parts (nat_le (latitude_difference p q) 200_000) (nat_le (longitude_difference p q) 200_000) near in
    let north : unsigned_abs (p.lat -ℤ q.lat) ≤ 200_000 = leb-true (latitude_difference p q) 200_000 both.0 in
    let east : min (unsigned_abs (p.lon -ℤ q.lon)) (3_600_000_000 - unsigned_abs (p.lon -ℤ q.lon)) ≤ 200_000 = leb-true (longitude_difference p q) 200_000 both.1 in
    let south = apart p.lat q.lat 900_000_000 hp.from_south hq.from_south in
    let rows = rows_near (from_south p) (from_south q) (omega (arith, south.0, north)) (omega (arith, south.1, north)) in
    let west = gap p.lon q.lon 1_800_000_000 hp.from_west hq.from_west in
    let x_in : from_west p ≤ 3_600_000_000 = omega (arith, ints, hp.from_west, hp.to_east) in
    let y_in : from_west q ≤ 3_600_000_000 = omega (arith, ints, hq.from_west, hq.to_east) in
    let columns = columns_near (from_west p) (from_west q) (unsigned_abs (p.lon -ℤ q.lon)) x_in y_in west east in
    let a = row_step (line_row p) (line_row q) (omega arith) (omega arith) rows.0 rows.1 in
    let b = column_step (line_column p) (line_column q) (omega arith) (omega arith) columns in (
      3 * a.0 + b.0,
      (in_third a.0 b.0 a.1 b.1).0,
      one_of (grid_tile 2 p) (grid_tile 2 q) (line_row p) (line_column p) (line_row q) (line_column q) a.0 b.0 (tile_is p) (tile_is q) (omega arith) (omega arith) a.1 b.1 a.2 b.2,
    )

same_parts : (a b c d : ℕ) → b < 1440 → d < 1440 → a * 1440 + b ≡ c * 1440 + d → (a ≡ c) × (b ≡ d)
same_parts a b c d hb hd e = (omega (arith, hb, hd, e), omega (arith, hb, hd, e))

same_row : (r a b : ℕ) → r < 720 → a < 3 → b < 3 → (r + 719 + a) % 720 ≡ (r + 719 + b) % 720 → a ≡ b
same_row r a b hr ha hb e = omega (arith, hr, ha, hb, e)

same_column : (c a b : ℕ) → c < 1440 → a < 3 → b < 3 → (c + 1439 + a) % 1440 ≡ (c + 1439 + b) % 1440 → a ≡ b
same_column c a b hc ha hb e = omega (arith, hc, ha, hb, e)

-- the nine differ
pub nine_differ : (tile j k : ℕ) → tile < 1_036_800 → j < 9 → k < 9 → near_tile tile j ≡ near_tile tile k → j ≡ k
nine_differ tile j k inside hj hk e =
    let parts = same_parts ((tile / 1440 + 719 + j / 3) % 720) ((tile % 1440 + 1439 + j % 3) % 1440) ((tile / 1440 + 719 + k / 3) % 720) ((tile % 1440 + 1439 + k % 3) % 1440) (omega arith) (omega arith) e in
    let rows = same_row (tile / 1440) (j / 3) (k / 3) (omega (arith, inside)) (omega (arith, hj)) (omega (arith, hk)) parts.0 in
    let columns = same_column (tile % 1440) (j % 3) (k % 3) (omega arith) (omega arith) (omega arith) parts.1 in
    omega (arith, rows, columns)
