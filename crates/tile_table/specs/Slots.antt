-- Whether a value is in its slot.
use Rattle.std.specs.Prelude.{ℕ, Option, Some, None, Bool, true, false, List, [], ◌∷◌, ◌==◌, if◌then◌else◌}

module _ {T : Type 0} where
  -- the slot has its value
  abbrev pub is_full : Option T → Bool
  is_full None = false
  is_full (Some tile) = true

  -- whether the value of a place in hand is in its slot: as the slots that are out with the seat say, and of other places as `inside` says
  abbrev pub inside_by : (ℕ → Bool) → List (ℕ × Option T) → ℕ → Bool
  inside_by inside [] i = inside i
  inside_by inside (x ∷ xs) i = if i == x.0 then is_full x.1 else inside_by inside xs i
