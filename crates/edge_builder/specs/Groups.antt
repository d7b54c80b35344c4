-- Where each number of a list stands in it.
use Rattle.std.specs.Prelude.{◌≡◌, ◌≤◌, ℕ, List, [], ◌∷◌, length, nat_eq, slice_index_or}
use Rattle.road_pieces.specs.Rows.{stops}

-- the places of a list at which that number stands, in order
abbrev pub places_of : ℕ → List ℕ → List ℕ
places_of n numbers = stops (λ m. nat_eq m n) 0 numbers

-- what stands for no place
abbrev pub no_place : ℕ
no_place = 4_294_967_295

-- from a place on, where each place has a next one, these places come in turn, and then none
abbrev pub LinksOn : List ℕ → ℕ → List ℕ → Type 0
LinksOn next from [] = from ≡ no_place
LinksOn next from (p ∷ ps) = (from ≡ p) × LinksOn next (slice_index_or next p no_place) ps

-- where each number has a first place, and each place a next one, the places of each number come in turn
pub record AreGroups (numbers first next : List ℕ) : Type 0 where
  pub lead : (n : ℕ) → LinksOn next (slice_index_or first n no_place) (places_of n numbers)
  pub lengths : length next ≡ length numbers
  pub few : length numbers ≤ 10_000_000
