-- The slots that are out with a seat between two calls.
use Rattle.std.specs.Prelude.{ℕ, Option, Bool, true, false, not, ◌&&◌, List, [], ◌∷◌, ◌==◌}
use Rattle.tile_table.specs.declared.view.Hand.{Hand}
use Rattle.tile_table.specs.declared.view.Hand.TheVariants.{Empty, Holds}
use Rattle.tile_table.specs.Slots.{is_full}

module _ {T : Type 0} where
  abbrev pub is_none : List (ℕ × Option T) → Bool
  is_none [] = true
  is_none (x ∷ xs) = false

  -- the slot of this place, without its value, and no other
  abbrev pub is_only : ℕ → List (ℕ × Option T) → Bool
  is_only j [] = false
  is_only j (x ∷ xs) = (x.0 == j) && not (is_full x.1) && is_none xs

  -- between two calls the slot of the place in hand is out with the seat, and no other. Its value is with the lock
  abbrev pub slots_fit : Hand → List (ℕ × Option T) → Bool
  slots_fit Empty xs = is_none xs
  slots_fit (Holds j marked) xs = is_only j xs
