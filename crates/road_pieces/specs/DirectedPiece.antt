-- A part of a run of a way, in one direction.
use Rattle.std.specs.Prelude.{ℕ, ℤ, Bool}

-- the part from one place of the run to a later one, walked forward or backward; places, and the runs of
-- a way, are numbered from 0
pub record DirectedPiece : Type 0 where
  pub way : ℤ
  pub run : ℕ
  pub from : ℕ
  pub to : ℕ
  pub forward : Bool
