-- The places of each number as a chain: each number has a first place, each place a next one.
use Rattle.std.specs.Prelude.{◌≡◌, ◌≤◌, ℕ, List, [], ◌∷◌, length, slice_index_or}
use Rattle.number_index.specs.Standing.{stands_at}

-- what stands for no place
abbrev pub no_place : ℕ
no_place = 4_294_967_295

-- from a place on, where each place has a next one, these places come in turn, and then none
abbrev pub LinksOn : List ℕ → ℕ → List ℕ → Type 0
LinksOn next from [] = from ≡ no_place
LinksOn next from (p ∷ ps) = (from ≡ p) × LinksOn next (slice_index_or next p no_place) ps

-- where each number has a first place, and each place a next one, the places of each number come in turn
pub record AreLinks (numbers first next : List ℕ) : Type 0 where
  pub lead : (n : ℕ) → LinksOn next (slice_index_or first n no_place) (stands_at n numbers)
  pub lengths : length next ≡ length numbers
  pub few : length numbers ≤ 10_000_000
