-- The places of each number in one list: those of 0, then those of 1, and so on.
use Rattle.std.specs.Prelude.{◌≡◌, ℕ, zero, suc, ◌+◌, ◌<◌, ◌≤◌, List, [], ◌∷◌, ◌++◌, length, slice_index_or, slice_range, All, nat_lt, if◌then◌else◌}
use Rattle.number_index.specs.Standing.{stands_at}

-- the places of all numbers below a bound
abbrev pub places_below : List ℕ → ℕ → List ℕ
places_below numbers zero = []
places_below numbers (suc n) = places_below numbers n ++ stands_at n numbers

-- where those of each number begin, up to the bound
abbrev pub heads_below : List ℕ → ℕ → List ℕ
heads_below numbers zero = 0 ∷ []
heads_below numbers (suc n) = heads_below numbers n ++ length (places_below numbers (suc n)) ∷ []

-- an index of a list of numbers below a bound
pub record AreIndexed (numbers heads places : List ℕ) : Type 0 where
  pub bound : ℕ
  pub heads_are : heads ≡ heads_below numbers bound
  pub places_are : places ≡ places_below numbers bound
  pub below : All (λ n. n < bound) numbers

-- the part of the places that begins at the head of a number; none where it has no head
abbrev pub part_of : List ℕ → List ℕ → ℕ → List ℕ
part_of heads places n = if nat_lt (n + 1) (length heads) then slice_range places (slice_index_or heads n 0) (slice_index_or heads (n + 1) 0) else []

-- heads never fall, and none lies past the places
pub record HeadsRise (heads places : List ℕ) : Type 0 where
  pub rise : (n : ℕ) → n + 1 < length heads → slice_index_or heads n 0 ≤ slice_index_or heads (n + 1) 0
  pub within : (n : ℕ) → n + 1 < length heads → slice_index_or heads (n + 1) 0 ≤ length places
