-- Where each number of a list stands in it.
use Rattle.std.specs.Prelude.{ℕ, ◌+◌, List, [], ◌∷◌, nat_eq, if◌then◌else◌}

-- the places at which a number stands in a list whose first place is k, in order
abbrev pub stands_from : ℕ → ℕ → List ℕ → List ℕ
stands_from n k [] = []
stands_from n k (m ∷ ms) = if nat_eq m n then k ∷ stands_from n (k + 1) ms else stands_from n (k + 1) ms

abbrev pub stands_at : ℕ → List ℕ → List ℕ
stands_at n numbers = stands_from n 0 numbers
