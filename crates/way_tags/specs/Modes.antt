-- The modes of travel, and sets of them as numbers.
use Rattle.std.specs.Prelude.{◌≢◌, ℕ, ◌+◌, ◌==◌, Bool, List, [], ◌∷◌, bit_and, if◌then◌else◌}
use Rattle.std.specs.List.{list_any}
use Rattle.way_tags.specs.declared.modes.TheConstants.{AUTO, PEDESTRIAN, BICYCLE, TRUCK, BUS}

pub data Mode : Type 0 where
  auto : Mode
  pedestrian : Mode
  bicycle : Mode
  truck : Mode
  bus : Mode

-- each mode has a bit of its own
abbrev pub bit_of : Mode → ℕ
bit_of auto = AUTO
bit_of pedestrian = PEDESTRIAN
bit_of bicycle = BICYCLE
bit_of truck = TRUCK
bit_of bus = BUS

-- a number has the bit of a mode
abbrev pub HasMode : ℕ → Mode → Type 0
HasMode modes mode = bit_and modes (bit_of mode) ≢ 0

-- the number with the bits of the modes that a test picks, and no other bit
abbrev pub word_of : (Mode → Bool) → ℕ
word_of test =
    (if test auto then AUTO else 0) + (if test pedestrian then PEDESTRIAN else 0) + (if test bicycle then BICYCLE else 0) + (if test truck then TRUCK else 0) + (if test bus then BUS else 0)

abbrev pub all_modes : List Mode
all_modes = auto ∷ pedestrian ∷ bicycle ∷ truck ∷ bus ∷ []

-- whether a mode is one of a list
abbrev pub is_listed : List Mode → Mode → Bool
is_listed modes mode = list_any (λ other. bit_of other == bit_of mode) modes
