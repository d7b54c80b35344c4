-- Laws of lengths.
use Rattle.std.proofs.Common.{◌≡◌, ℕ, zero, suc, ◌+◌, ◌*◌, ◌/◌, ◌^◌, ◌<◌, ◌≤◌, ℤ, pos, negsuc, neg_ℤ, ◌+ℤ◌, ◌-ℤ◌, ◌≤ℤ◌, refl, sym, ap, arith}
use Rattle.std.specs.Prelude.{unsigned_abs}
use Rattle.std.proofs.Math.Nat.{mul-le-mul, mul-le-mul_left, div-le_of_le-mul}
use Rattle.std.proofs.lemmas.Int.{ints}
use Rattle.fixed_geo.specs.declared.points.Point.{Point}
use Rattle.fixed_geo.specs.Place.{IsPlace}
use Rattle.fixed_geo.specs.Root.{whole_root_of}
use Rattle.fixed_geo.specs.Length.{quarter, mean_latitude, cosine_of, latitude_difference, short_way, longitude_difference, west_east, square_length, length_cm, on_meridian}
use Rattle.fixed_geo.proofs.RootLaws.{whole_root_is, root_below}

-- a number without its sign is that of its opposite
abs-neg : (z : ℤ) → unsigned_abs (neg_ℤ z) ≡ unsigned_abs z
abs-neg (pos zero) = refl
abs-neg (pos (suc n)) = refl
abs-neg (negsuc n) = refl

-- a difference without its sign is the same both ways
abs_swap : (a b : ℤ) → unsigned_abs (a -ℤ b) ≡ unsigned_abs (b -ℤ a)
abs_swap a b =
    let turned : b -ℤ a ≡ neg_ℤ (a -ℤ b) = omega (arith, ints) in
    rw turned (sym (abs-neg (a -ℤ b)))

-- a sum is the same both ways
sum_swap : (a b : ℤ) → a +ℤ b ≡ b +ℤ a
sum_swap a b = omega (arith, ints)

latitude_swap : (a b : Point) → latitude_difference a b ≡ latitude_difference b a
unfolding latitude_difference
latitude_swap a b = abs_swap a.lat b.lat

longitude_swap : (a b : Point) → longitude_difference a b ≡ longitude_difference b a
unfolding longitude_difference
longitude_swap a b = ap short_way (abs_swap a.lon b.lon)

mean_swap : (a b : Point) → mean_latitude a b ≡ mean_latitude b a
unfolding mean_latitude
mean_swap a b = ap (λ z. unsigned_abs z / 2) (sum_swap a.lat b.lat)

west_east_swap : (a b : Point) → west_east a b ≡ west_east b a
unfolding west_east
west_east_swap a b = rw (longitude_swap a b, mean_swap a b) refl

-- a length is the same both ways
pub length_swap : (a b : Point) → length_cm a b ≡ length_cm b a
unfolding length_cm square_length
length_swap a b = rw (west_east_swap a b, latitude_swap a b) refl

-- from a longitude the two ways to the meridian of 180 degrees make the whole round
round_sum : (lon : ℤ) → neg_ℤ (pos 1_800_000_000) ≤ℤ lon → lon ≤ℤ pos 1_800_000_000 → unsigned_abs (lon -ℤ pos 1_800_000_000) + unsigned_abs (lon -ℤ neg_ℤ (pos 1_800_000_000)) ≡ 3_600_000_000
round_sum lon west east = grind (arith, ints)

-- the shorter way round is that of what is left of the round
short_rest : (d e : ℕ) → d + e ≡ 3_600_000_000 → short_way d ≡ short_way e
unfolding short_way
short_rest d e h = omega arith

-- from each place the two spellings of the meridian of 180 degrees are as far away
meridian_difference : (p : Point) (lat : ℤ) → IsPlace p → longitude_difference p (on_meridian lat (pos 1_800_000_000)) ≡ longitude_difference p (on_meridian lat (neg_ℤ (pos 1_800_000_000)))
unfolding longitude_difference on_meridian
meridian_difference p lat h = short_rest _ _ (round_sum p.lon h.from_west h.to_east)

-- the latitudes don't depend on the meridian
mean_alike : (p : Point) (lat lon other : ℤ) → mean_latitude p (on_meridian lat lon) ≡ mean_latitude p (on_meridian lat other)
unfolding mean_latitude on_meridian
mean_alike p lat lon other = refl

latitude_alike : (p : Point) (lat lon other : ℤ) → latitude_difference p (on_meridian lat lon) ≡ latitude_difference p (on_meridian lat other)
unfolding latitude_difference on_meridian
latitude_alike p lat lon other = refl

-- two points at the same latitudes and as far round from a third are as far from it
alike : (p a b : Point) → longitude_difference p a ≡ longitude_difference p b → mean_latitude p a ≡ mean_latitude p b → latitude_difference p a ≡ latitude_difference p b → length_cm p a ≡ length_cm p b
unfolding length_cm square_length west_east
alike p a b round mean latitude = rw (round, mean, latitude) refl

-- lengths don't tell the meridian of 180 degrees from that of -180
pub one_meridian : (p : Point) (lat : ℤ) → IsPlace p → length_cm p (on_meridian lat (pos 1_800_000_000)) ≡ length_cm p (on_meridian lat (neg_ℤ (pos 1_800_000_000)))
one_meridian p lat h =
    let east = on_meridian lat (pos 1_800_000_000) in
    let west = on_meridian lat (neg_ℤ (pos 1_800_000_000)) in
    alike p east west (meridian_difference p lat h) (mean_alike p lat _ _) (latitude_alike p lat _ _)

-- between the two spellings of the meridian there is no way from west to east
pub no_way : (lat other : ℤ) → west_east (on_meridian lat (pos 1_800_000_000)) (on_meridian other (neg_ℤ (pos 1_800_000_000))) ≡ 0
unfolding west_east longitude_difference short_way on_meridian
no_way lat other = omega arith

-- the cosine is at most one
cosine_le : (x : ℕ) → cosine_of x ≤ 2 ^ 20
unfolding cosine_of
cosine_le x = div-le_of_le-mul (4 * (quarter * quarter) + x * x) (omega arith)

-- the shorter way round is at most half of the round
short_way_le : (d : ℕ) → short_way d ≤ 1_800_000_000
unfolding short_way
short_way_le d = omega arith

-- a way shrinks by a factor of at most one
shrunk_le : (way factor : ℕ) → factor ≤ 2 ^ 20 → way * factor / 2 ^ 20 ≤ way
shrunk_le way factor h = div-le_of_le-mul (2 ^ 20) (omega (arith, mul-le-mul_left way h))

west_east_le : (a b : Point) → west_east a b ≤ 1_800_000_000
unfolding west_east longitude_difference
west_east_le a b = omega (arith, shrunk_le (longitude_difference a b) (cosine_of (mean_latitude a b)) (cosine_le (mean_latitude a b)), short_way_le (unsigned_abs (a.lon -ℤ b.lon)))

latitude_le : (a b : Point) → IsPlace a → IsPlace b → latitude_difference a b ≤ 1_800_000_000
unfolding latitude_difference
latitude_le a b p q = grind (arith, ints)

-- the square of a length, of both ways at most half a round
square_le : (a b : Point) → IsPlace a → IsPlace b → square_length a b ≤ 2 * (1_800_000_000 * 1_800_000_000)
unfolding square_length
square_le a b p q = omega (arith, mul-le-mul (west_east_le a b) (west_east_le a b), mul-le-mul (latitude_le a b p q) (latitude_le a b p q))

-- a length is below 2^32 centimetres
pub length_below : (a b : Point) → IsPlace a → IsPlace b → length_cm a b < 2 ^ 32
unfolding length_cm
length_below a b p q =
    let below : whole_root_of (square_length a b) < 2_545_584_413 = root_below _ (square_length a b) 2_545_584_413 (whole_root_is (square_length a b)).not_above (omega (arith, square_le a b p q)) in
    omega arith
