-- Fields of one bit, and lists of numbers in fields.
use Rattle.std.proofs.Common.{◌≡◌, ℕ, zero, suc, ◌^◌, ◌<◌, ◌≤◌, pow_mono, Bool, true, false, List, [], ◌∷◌, length, get_or, refl, arith, eqb, cond}
use Rattle.std.specs.Int.{from_bool}
use Rattle.tile_records.specs.Layout.{BitSpan}

pub bool_fits : (b : Bool) → from_bool b < 2 ^ 1
bool_fits true = omega arith
bool_fits false = omega arith

pub bool_back : (b : Bool) → eqb (from_bool b) 1 ≡ b
bool_back true = refl
bool_back false = refl

pub bit_back : (n : ℕ) → n < 2 → from_bool (eqb n 1) ≡ n
bit_back zero lt = refl
bit_back (suc zero) lt = refl
bit_back (suc (suc n)) lt = absurd (omega arith)

-- the number of a field
abbrev pub number : List (ℕ × ℕ) → ℕ → ℕ
number [] i = 0
number (f ∷ fs) zero = f.1
number (f ∷ fs) (suc i) = number fs i

-- the widths of the spans in one word
abbrev pub widths_in : ℕ → List BitSpan → List ℕ
widths_in word [] = []
widths_in word (s ∷ ss) = cond (eqb s.word word) (s.width ∷ widths_in word ss) (widths_in word ss)

pub four_are : (words : List ℕ) → length words ≡ 4 → words ≡ get_or words 0 0 ∷ get_or words 1 0 ∷ get_or words 2 0 ∷ get_or words 3 0 ∷ []
four_are [] e = absurd (omega arith)
four_are (a ∷ []) e = absurd (omega arith)
four_are (a ∷ b ∷ []) e = absurd (omega arith)
four_are (a ∷ b ∷ c ∷ []) e = absurd (omega arith)
four_are (a ∷ b ∷ c ∷ d ∷ []) e = refl
four_are (a ∷ b ∷ c ∷ d ∷ x ∷ xs) e = absurd (omega arith)

pub below_each : (a b c d : ℕ) → a < 2 ^ 64 → b < 2 ^ 64 → c < 2 ^ 64 → d < 2 ^ 64 → (i : ℕ) → get_or (a ∷ b ∷ c ∷ d ∷ []) i 0 < 2 ^ 64
below_each a b c d pa pb pc pd zero = pa
below_each a b c d pa pb pc pd (suc zero) = pb
below_each a b c d pa pb pc pd (suc (suc zero)) = pc
below_each a b c d pa pb pc pd (suc (suc (suc zero))) = pd
below_each a b c d pa pb pc pd (suc (suc (suc (suc i)))) = omega arith

pub below_wide : (n width : ℕ) → n < 2 ^ width → width ≤ 64 → n < 2 ^ 64
below_wide n width lt le = let more : 2 ^ width ≤ 2 ^ 64 = pow_mono le in omega (arith, lt, more)
