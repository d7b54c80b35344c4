-- Tries of one lock in a row, each of them in vain.
use Rattle.std.specs.Prelude.{◌≡◌, ℕ, ◌-◌, ◌<◌, List, ◌++◌, length, All, Result, Ok, Err}
use Rattle.tile_machine.specs.At.{At}
use Rattle.tile_table.specs.declared.view.View.{View}
use Rattle.tile_machine.specs.declared.parts.PartFault.{PartFault}
use Rattle.tile_machine.specs.declared.parts.PartFault.TheVariants.{Late, OutOfMemory}

-- a seat's list of lost tries gained this many pairs, each of place j, of which the last names this holder
pub record GainedTries (j holder count : ℕ) (before after : List (ℕ × ℕ)) : Type 0 where
  pub tries : List (ℕ × ℕ)
  pub gained : after ≡ before ++ tries
  pub of_place : All (λ t. t.0 ≡ j) tries
  pub many : length tries ≡ count
  pub last : 0 < count → At tries (count - 1) (j, holder)

-- P of the place and the holder, if the answer is Late
abbrev pub IfLateAt : {A : Type 0} → Result A PartFault → (ℕ → ℕ → Type 0) → Type 0
IfLateAt (Ok a) P = Unit {0}
IfLateAt (Err OutOfMemory) P = Unit {0}
IfLateAt (Err (Late place holder)) P = P place holder

-- P where a lock was had, whether there was memory for what it was taken for or not; Q, if the answer is Late
abbrev pub HadOrLate : {A : Type 0} → Result A PartFault → Type 0 → Type 0 → Type 0
HadOrLate (Ok a) P Q = P
HadOrLate (Err OutOfMemory) P Q = P
HadOrLate (Err (Late place holder)) P Q = Q

-- how often a lock is tried in a row
abbrev pub tries_in_a_row : ℕ
tries_in_a_row = 1000

module _ {T : Type 0} where
  -- the lock of place j was tried as often as is allowed, each time in vain, and the last time this worker held it
  abbrev pub TriedInVain : ℕ → View T → View T → ℕ → ℕ → Type 0
  TriedInVain j before after place holder = (place ≡ j) × GainedTries place holder tries_in_a_row before.lost after.lost
