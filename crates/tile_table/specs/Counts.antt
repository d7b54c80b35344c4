-- How often something stands in a list, and sums over a list.
use Rattle.std.specs.Prelude.{ℕ, ◌+◌, Bool, true, false, ◌&&◌, List, [], ◌∷◌, ◌==◌}

abbrev pub bit : Bool → ℕ
bit true = 1
bit false = 0

-- 1 where the numbers are one, else 0
abbrev pub same_bit : ℕ → ℕ → ℕ
same_bit a b = bit (a == b)

-- how often x stands in the list
abbrev pub times_in : ℕ → List ℕ → ℕ
times_in x [] = 0
times_in x (y ∷ ys) = same_bit y x + times_in x ys

-- how often the pair of a and b stands in the list
abbrev pub pair_times : ℕ → ℕ → List (ℕ × ℕ) → ℕ
pair_times a b [] = 0
pair_times a b (p ∷ ps) = bit ((p.0 == a) && (p.1 == b)) + pair_times a b ps

-- f of each, added up
abbrev pub total : {V : Type 0} → (V → ℕ) → List V → ℕ
total f [] = 0
total f (v ∷ vs) = f v + total f vs
