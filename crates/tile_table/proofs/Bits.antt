-- 0 and 1 as answers of tests on numbers
use Rattle.std.proofs.Common.{◌≡◌, ℕ, ◌+◌, ◌<◌, ◌≤◌, ◌≢◌, ◌⊎◌, Bool, true, false, ◌&&◌, refl, ap, sym, ◌∙◌, eqb, eq-eqb, ne_eqb, nat_lt, nat_le, arith}
use mathlib.Core.Logic.{dite}
use native.Mathlib.Decide.{ℕ_discrete}
use Rattle.std.proofs.lemmas.Bool.Decides.{nat_tests}
use Rattle.tile_table.specs.Counts.{bit, same_bit}

pub bit-le : (b : Bool) → bit b ≤ 1
bit-le true = omega arith
bit-le false = omega arith

pub same-eq : (a b : ℕ) → a ≡ b → same_bit a b ≡ 1
same-eq a b e = ap bit (eq-eqb a b e)

pub same-ne : (a b : ℕ) → a ≢ b → same_bit a b ≡ 0
same-ne a b ne = ap bit (ne_eqb a b ne)

pub same-some : (a b : ℕ) → 0 < same_bit a b → a ≡ b
same-some a b some = dite (ℕ_discrete a b) (λ e. e) (λ ne. absurd (omega (arith, same-ne a b ne, some)))

-- both numbers are shifted
pub same-shift : (a b n : ℕ) → same_bit (a + n) (b + n) ≡ same_bit a b
same-shift a b n =
    dite (ℕ_discrete a b)
    (λ e. same-eq (a + n) (b + n) (omega arith) ∙ sym (same-eq a b e))
    (λ ne. same-ne (a + n) (b + n) (λ e. ne (omega arith)) ∙ sym (same-ne a b ne))

and-true : (b : Bool) → bit (b && true) ≡ bit b
and-true true = refl
and-true false = refl

and-false : (b : Bool) → bit (b && false) ≡ 0
and-false true = refl
and-false false = refl

-- a pair that agrees in its second number
pub both-same : (a b w i : ℕ) → b ≡ i → bit (eqb a w && eqb b i) ≡ same_bit a w
both-same a b w i e = ap (λ t. bit (eqb a w && t)) (eq-eqb b i e) ∙ and-true (eqb a w)

-- a pair that doesn't
pub both-other : (a b w i : ℕ) → b ≢ i → bit (eqb a w && eqb b i) ≡ 0
both-other a b w i ne = ap (λ t. bit (eqb a w && t)) (ne_eqb b i ne) ∙ and-false (eqb a w)

pub both-eq : (a b w i : ℕ) → a ≡ w → b ≡ i → bit (eqb a w && eqb b i) ≡ 1
both-eq a b w i e f = both-same a b w i f ∙ same-eq a w e

pub both-some : (a b w i : ℕ) → 0 < bit (eqb a w && eqb b i) → (a ≡ w) × (b ≡ i)
both-some a b w i some =
    dite (ℕ_discrete b i)
    (λ e. (same-some a w (omega (arith, both-same a b w i e, some)), e))
    (λ ne. absurd (omega (arith, both-other a b w i ne, some)))

-- a number within bounds
pub within : (a x b : ℕ) → a ≤ x → x < b → bit (nat_le a x && nat_lt x b) ≡ 1
within a x b h k = grind (arith, nat_tests)

pub within-some : (a x b : ℕ) → 0 < bit (nat_le a x && nat_lt x b) → (a ≤ x) × (x < b)
within-some a x b h = grind (arith, nat_tests)

pub outside : (a x b : ℕ) → bit (nat_le a x && nat_lt x b) ≡ 0 → (x < a) ⊎ (b ≤ x)
outside a x b h = grind (arith, nat_tests)

pub below-some : (x b : ℕ) → 0 < bit (nat_lt x b) → x < b
below-some x b h = grind (arith, nat_tests)

-- a range cut in two
pub cut : (a m b x : ℕ) → a ≤ m → m ≤ b → bit (nat_le a x && nat_lt x m) + bit (nat_le m x && nat_lt x b) ≡ bit (nat_le a x && nat_lt x b)
cut a m b x h k = grind (arith, nat_tests)

-- no number is in an empty range
pub no-range : (x : ℕ) → bit (nat_le 0 x && nat_lt x 0) ≡ 0
no-range x = grind (arith, nat_tests)
