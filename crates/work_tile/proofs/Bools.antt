-- Fields of one bit, and lists of numbers in fields.
use Rattle.std.proofs.Common.{◌≡◌, ℕ, zero, suc, ◌^◌, ◌<◌, Bool, true, false, List, [], ◌∷◌, refl, arith, eqb}
use Rattle.std.specs.Int.{from_bool}

pub bool_fits : (b : Bool) → from_bool b < 2 ^ 1
bool_fits true = omega arith
bool_fits false = omega arith

pub bool_back : (b : Bool) → eqb (from_bool b) 1 ≡ b
bool_back true = refl
bool_back false = refl

-- the number of a field
abbrev pub number : List (ℕ × ℕ) → ℕ → ℕ
number [] i = 0
number (f ∷ fs) zero = f.1
number (f ∷ fs) (suc i) = number fs i
