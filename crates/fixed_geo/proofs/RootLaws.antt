-- Laws of whole roots: a number has one, and `whole_root_of` gives it.
use Rattle.std.proofs.Common.{◌≡◌, ℕ, zero, suc, ◌+◌, ◌*◌, ◌<◌, ◌≤◌, inl, inr, arith}
use Rattle.std.proofs.Math.Nat.{mul-le-mul}
use Rattle.std.proofs.lemmas.Bool.{cases_lt}
use Rattle.std.proofs.lemmas.Bool.Decides.{nat_tests}
use Rattle.fixed_geo.specs.Root.{IsWholeRoot, whole_root_of, next_root}

-- a root of a number isn't above another one of it
root_le : (r s n : ℕ) → IsWholeRoot r n → IsWholeRoot s n → r ≤ s
root_le r s n p q =
    elim (cases_lt s r) [
      | inl h ↦ let more : s + 1 ≤ r = omega arith in let square : (s + 1) * (s + 1) ≤ r * r = mul-le-mul more more in absurd (omega (arith, square, p.not_above, q.greatest))
      | inr h ↦ h
    ]

-- a number has one whole root
pub same_root : (r s n : ℕ) → IsWholeRoot r n → IsWholeRoot s n → r ≡ s
same_root r s n p q = omega (arith, root_le r s n p q, root_le s r n q p)

-- from the root of a number to that of its successor
next_root_is : (root n : ℕ) → IsWholeRoot root n → IsWholeRoot (next_root root n) (suc n)
unfolding next_root
next_root_is root n p = record { not_above = grind (arith, nat_tests); greatest = grind (arith, nat_tests) }

-- the function gives the whole root
pub whole_root_is : (n : ℕ) → IsWholeRoot (whole_root_of n) n
unfolding whole_root_of
whole_root_is zero = record { not_above = omega arith; greatest = omega arith }
whole_root_is (suc n) = next_root_is (whole_root_of n) n (whole_root_is n)

-- whatever meets the property is the function's value
pub only_root : {r n : ℕ} → IsWholeRoot r n → r ≡ whole_root_of n
only_root {r} {n} p = same_root r (whole_root_of n) n p (whole_root_is n)

-- the root of a number below a square is below its root
pub root_below : (r n k : ℕ) → r * r ≤ n → n < k * k → r < k
root_below r n k p q =
    elim (cases_lt r k) [
      | inl h ↦ h
      | inr h ↦ let square : k * k ≤ r * r = mul-le-mul h h in absurd (omega (arith, square))
    ]
