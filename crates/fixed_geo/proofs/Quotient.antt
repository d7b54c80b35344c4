-- A quotient that is found by steps up from a number that isn't above it.
use Rattle.std.proofs.Common.{◌≡◌, ℕ, ◌+◌, ◌-◌, ◌*◌, ◌/◌, ◌^◌, ◌<◌, ◌≤◌, inl, inr, sym, arith}
use Rattle.std.proofs.Math.Nat.{mul-le-mul_left, mul-le-mul_right, div-mul-le_self}
use Rattle.std.proofs.lemmas.Bool.{cases_lt}
use Rattle.std.proofs.lemmas.Nat.{div-mul-add}

-- a number and a remainder below the divisor
quotient_by : (n d q r : ℕ) → n ≡ q * d + r → r < d → q ≡ n / d
quotient_by n d q r e h = rw e (sym (div-mul-add q d r h))

-- a number between whose product and that of its successor the dividend stands is the quotient
pub quotient_is : (n d q : ℕ) → q * d ≤ n → n < (q + 1) * d → q ≡ n / d
quotient_is n d q low high = quotient_by n d q (n - q * d) (omega arith) (omega arith)

-- where the dividend is below 2^22 divisors, the quotient is below 2^22
pub quotient_small : (u l q : ℕ) → q * l ≤ u * 2 ^ 22 → u < l → q < 2 ^ 22
quotient_small u l q low small =
    elim (cases_lt q (2 ^ 22)) [
      | inl h ↦ h
      | inr h ↦ let more : 2 ^ 22 * l ≤ q * l = mul-le-mul_right l h in absurd (omega (arith, more))
    ]

-- a quotient of leading parts k and m, with the divisor's rounded up, isn't above the whole quotient
leading_parts : (u l k m q : ℕ) → q * (m + 1) ≤ k * 2 ^ 22 → l ≤ (m + 1) * 2 ^ 20 → k * 2 ^ 20 ≤ u → q * l ≤ u * 2 ^ 22
leading_parts u l k m q quotient divisor dividend =
    let whole : q * l ≤ q * ((m + 1) * 2 ^ 20) = mul-le-mul_left q divisor in
    omega (arith, whole)

-- the quotient of the leading bits, with the divisor's rounded up, isn't above the quotient
pub leading_low : (u l : ℕ) → (u / 2 ^ 20 * 2 ^ 22 / (l / 2 ^ 20 + 1)) * l ≤ u * 2 ^ 22
leading_low u l =
    leading_parts u l (u / 2 ^ 20) (l / 2 ^ 20) (u / 2 ^ 20 * 2 ^ 22 / (l / 2 ^ 20 + 1)) (div-mul-le_self (u / 2 ^ 20 * 2 ^ 22) (l / 2 ^ 20 + 1)) (omega arith) (omega arith)
