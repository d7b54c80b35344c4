-- Numbers by their bits.
use Rattle.std.proofs.Common.{◌≡◌, ◌≢◌, ℕ, zero, suc, ◌+◌, ◌*◌, ◌/◌, ◌%◌, ◌^◌, ◌<◌, max, refl, sym, ◌∙◌, ap, Bool, true, false, inl, inr, arith}
use Rattle.std.specs.Prelude.{bit_or}
use Rattle.std.specs.Int.{bit_at, from_bool}
use Rattle.std.proofs.Math.Nat.{pow-suc}
use Rattle.std.proofs.lemmas.Bool.{cases_eq}
use Rattle.std.proofs.lemmas.Nat.{or_lt}
use Rattle.std.proofs.lemmas.Nat.Bits.{bit_at_lowest, bit_at-suc, bit_at_or, bit_at-pow_same, bit_at-pow_other, bit_at-lt, same_from_bits_below}
use Rattle.road_walks.specs.Orders.{number_of_bits}

lowest : (b : Bool) (m : ℕ) → (from_bool b + 2 * m) % 2 ≡ from_bool b
lowest true m = omega arith
lowest false m = omega arith

halved : (b : Bool) (m : ℕ) → (from_bool b + 2 * m) / 2 ≡ m
halved true m = omega arith
halved false m = omega arith

bit_of : (test : ℕ → Bool) (k i n : ℕ) → k < n → bit_at (number_of_bits test i n) k ≡ from_bool (test (i + k))
bit_of test k i zero h = absurd (omega (arith, h))
bit_of test zero i (suc n) h =
    bit_at_lowest (from_bool (test i) + 2 * number_of_bits test (suc i) n) ∙ (lowest (test i) (number_of_bits test (suc i) n)
    ∙ ap (λ m. from_bool (test m)) {x = i} {y = i + 0} (omega arith))
bit_of test (suc k) i (suc n) h =
    bit_at-suc (from_bool (test i) + 2 * number_of_bits test (suc i) n) k ∙ (ap (λ m. bit_at m k) (halved (test i) (number_of_bits test (suc i) n))
    ∙ (bit_of test k (suc i) n (omega (arith, h)) ∙ ap (λ m. from_bool (test m)) {x = suc i + k} {y = i + suc k} (omega arith)))

low_step : (b : Bool) (m p : ℕ) → m < p → from_bool b + 2 * m < p * 2
low_step true m p h = omega (arith, h)
low_step false m p h = omega (arith, h)

number_low : (test : ℕ → Bool) (i n : ℕ) → number_of_bits test i n < 2 ^ n
number_low test i zero = omega arith
number_low test i (suc n) =
    let step : from_bool (test i) + 2 * number_of_bits test (suc i) n < 2 ^ n * 2 = low_step (test i) (number_of_bits test (suc i) n) (2 ^ n) (number_low test (suc i) n) in
    omega (arith, step, pow-suc 2 n)

-- tests that agree at the bits give the same number
pub same_number : (f g : ℕ → Bool) (i n : ℕ) → ((k : ℕ) → k < i + n → f k ≡ g k) → number_of_bits f i n ≡ number_of_bits g i n
same_number f g i zero h = refl
same_number f g i (suc n) h =
    let here : f i ≡ g i = h i (omega arith) in
    let rest = same_number f g (suc i) n (λ k l. h k (omega (arith, l))) in
    λ j. from_bool (here j) + 2 * rest j

-- a test that passes at one place more has one bit more
pub one_more_bit : (f g : ℕ → Bool) (k n : ℕ) → k < n → g k ≡ true → ((i : ℕ) → i ≢ k → g i ≡ f i) → 2 ^ k < 2 ^ n → number_of_bits g 0 n ≡ bit_or (number_of_bits f 0 n) (2 ^ k)
one_more_bit f g k n h here others low =
    same_from_bits_below n (number_of_bits g 0 n) (bit_or (number_of_bits f 0 n) (2 ^ k)) (number_low g 0 n) (or_lt n (number_of_bits f 0 n) (2 ^ k) (number_low f 0 n) low)
    (λ i l. bit_of g i 0 n l ∙ (ap (λ m. from_bool (g m)) {x = 0 + i} {y = i} (omega arith) ∙ (at i l ∙ sym (bit_at_or (number_of_bits f 0 n) (2 ^ k) i))))
  where
    at : (i : ℕ) → i < n → from_bool (g i) ≡ max (bit_at (number_of_bits f 0 n) i) (bit_at (2 ^ k) i)
    at i l =
        let was : bit_at (number_of_bits f 0 n) i ≡ from_bool (f i) = bit_of f i 0 n l ∙ ap (λ m. from_bool (f m)) {x = 0 + i} {y = i} (omega arith) in
        elim (cases_eq i k) [
          | inl same ↦
              let set : bit_at (2 ^ k) i ≡ 1 = ap (bit_at (2 ^ k)) same ∙ bit_at-pow_same k in
              let passes : from_bool (g i) ≡ 1 = ap (λ m. from_bool (g m)) same ∙ ap from_bool here in
              omega (arith, set, passes, bit_at-lt (number_of_bits f 0 n) i)
          | inr differs ↦
              let unset : bit_at (2 ^ k) i ≡ 0 = bit_at-pow_other k i differs in
              let stays : from_bool (g i) ≡ from_bool (f i) = ap from_bool (others i differs) in
              omega (arith, unset, stays, was)
        ]
