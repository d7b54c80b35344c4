-- What a seat keeps while it looks at the tiles of others, and what it is shown.
use Rattle.std.specs.Prelude.{◌≡◌, ℕ, ◌≤◌, Bool, true, false, List, [], ◌∷◌, ◌++◌, length, map}
use Rattle.tile_machine.specs.declared.phase.Phase.{Ghosts}
use Rattle.tile_table.specs.declared.view.View.{View}
use Rattle.tile_table.specs.declared.view.Hand.{Hand}
use Rattle.tile_table.specs.declared.view.Hand.TheVariants.{Empty, Holds}
use Rattle.tile_table.specs.declared.seat.Seat.{Seat}
use Rattle.tile_table.specs.Seats.{view, seat_name}

-- whether no lock is in hand
abbrev pub is_empty : Hand → Bool
is_empty Empty = true
is_empty (Holds j marked) = false

module _ {T : Type 0} where
  -- the lists of tiles, the range, the claims, those of others that were met, and the marks are what they were
  pub record Unchanged (before after : View T) : Type 0 where
    pub world : after.world ≡ before.world
    pub goal : after.goal ≡ before.goal
    pub first : after.first ≡ before.first
    pub end : after.end ≡ before.end
    pub all : after.all ≡ before.all
    pub claims : after.claims ≡ before.claims
    pub marks : after.marks ≡ before.marks
    pub seen : after.seen ≡ before.seen

  -- the seat has all the numbers: there is no other worker
  abbrev pub IsAlone : View T → Type 0
  IsAlone v = (v.first ≡ 0) × (v.end ≡ v.all)

  -- the tries that were lost: none are given up, and where there is no other worker none is lost
  pub record Loses (before after : View T) : Type 0 where
    pub more : length before.lost ≤ length after.lost
    pub alone : IsAlone before → after.lost ≡ before.lost

  -- the lock of place j was taken once
  abbrev pub TookOne : ℕ → View T → View T → Type 0
  TookOne j before after = after.takes ≡ before.takes ++ (before.first, j) ∷ []

  -- these are the readable parts of the world's tiles, and of the finished ones
  abbrev pub Shown : {Q : Type 0} → (T → Q) → View T → List Q → Type 0
  Shown readable v parts = (parts ≡ map readable v.world) × (parts ≡ map readable v.goal)

module _ {X T Q : Type 0} {g : Ghosts X T Q} where
  -- after a look at a tile the seat is at its table, holds no lock, and has the same lists of tiles, range, claims and marks.
  -- Its lost tries may be more
  pub record Looked (before after : Seat X T Q g) : Type 0 where
    pub table : seat_name after ≡ seat_name before
    pub hand : (view after).hand ≡ Empty
    pub unchanged : Unchanged (view before) (view after)
    pub loses : Loses (view before) (view after)
