-- Newton's steps towards a whole square root.
use Rattle.std.proofs.Common.{◌≡◌, ℕ, ◌+◌, ◌-◌, ◌*◌, ◌/◌, ◌^◌, ◌<◌, ◌≤◌, inl, inr, arith, min}
use Rattle.std.proofs.Math.Nat.{mul-le-mul}
use Rattle.std.proofs.lemmas.Bool.{cases_lt}
use Rattle.std.proofs.Math.Pow.{pow_mono}
use Rattle.std.proofs.lemmas.Nat.{div_below, div-add-mod', mod_below, shr_below, pow-add}

-- one more than the quotient times the divisor is above the dividend
above_quotient : (n g : ℕ) → 0 < g → n < g * (n / g + 1)
above_quotient n g h = omega (arith, div-add-mod' n g, mod_below n g h)

-- four times a product isn't above the square of the sum, where b is a + d
four_mul_by : (a d b : ℕ) → b ≡ a + d → 4 * (a * b) ≤ (a + b) * (a + b)
four_mul_by a d b e = rw e (omega arith)

-- four times a product isn't above the square of the sum
four_mul_le : (a b : ℕ) → 4 * (a * b) ≤ (a + b) * (a + b)
four_mul_le a b =
    elim (cases_lt a b) [
      | inl h ↦ four_mul_by a (b - a) b (omega arith)
      | inr h ↦ omega (arith, four_mul_by b (a - b) a (omega arith))
    ]

-- the mean of two numbers whose product is above n is at or above the root of n
mean_above : (n g q mean : ℕ) → n < g * (q + 1) → g + (q + 1) ≤ 2 * (mean + 1) → n < (mean + 1) * (mean + 1)
mean_above n g q mean below half =
    let square : (g + (q + 1)) * (g + (q + 1)) ≤ (2 * (mean + 1)) * (2 * (mean + 1)) = mul-le-mul half half in
    omega (arith, four_mul_le g (q + 1), square)

-- a step from any guess is at or above the root
pub step_above : (n g : ℕ) → 0 < g → n < ((g + n / g) / 2 + 1) * ((g + n / g) / 2 + 1)
step_above n g h = mean_above n g (n / g) ((g + n / g) / 2) (above_quotient n g h) (omega arith)

-- what a guess above the root leaves of the number is below the guess
pub quotient_below : (n g : ℕ) → n < g * g → n / g < g
quotient_below n g h =
    elim (cases_lt 0 g) [
      | inl p ↦ div_below n g g p h
      | inr z ↦ let e : g ≡ 0 = omega arith in absurd (omega (arith, rw e at h))
    ]

-- a step from a guess above the root is below that guess
pub step_below : (n g : ℕ) → n < g * g → (g + n / g) / 2 < g
step_below n g h = omega (arith, quotient_below n g h)

-- powers of two are in the order of their exponents
pow_le : (i j : ℕ) → i ≤ j → 2 ^ i ≤ 2 ^ j
pow_le i j h = pow_mono h

-- what the guess of a 64-bit number is made of: r is the place of its highest bit
pub guess_parts : (n r : ℕ) → n < 2 * 2 ^ r → r < 64 → (n / 2 ^ (r / 2) < 2 ^ 33) × (2 ^ (r / 2) ≤ 2 ^ 31)
guess_parts n r below top =
    let half = r / 2 in
    let wide : 2 ^ (r + 1) ≤ 2 ^ (half + 2 + half) = pow_le (r + 1) (half + 2 + half) (omega arith) in
    let shifted : n / 2 ^ half < 2 ^ (half + 2) = shr_below n (half + 2) half (omega (arith, wide, pow-add 2 r 1)) in
    let few : 2 ^ (half + 2) ≤ 2 ^ 33 = pow_le (half + 2) 33 (omega arith) in
    (omega (arith, shifted, few), pow_le half 31 (omega arith))

-- the root of the upper 64 bits, rounded up, is at or above the root of the whole
pub large_above : (n s guess : ℕ) → n < 2 ^ 128 → n / 2 ^ 64 < (s + 1) * (s + 1) → guess ≡ min ((s + 1) * 2 ^ 32) (2 ^ 64 - 1) → n < (guess + 1) * (guess + 1)
large_above n s guess top high is =
    elim (cases_lt ((s + 1) * 2 ^ 32) (2 ^ 64)) [
      | inl h ↦ let e : guess ≡ (s + 1) * 2 ^ 32 = omega arith in rw e (omega arith)
      | inr h ↦ let e : guess ≡ 2 ^ 64 - 1 = omega arith in rw e (omega arith)
    ]
