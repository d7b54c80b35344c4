-- Modes of travel, as the bits of a number: auto 1, pedestrian 2, bicycle 4, truck 8, bus 64.
use Rattle.std.specs.Prelude.{ℕ, ◌≢◌, bit_and, [], ◌∷◌}
use Rattle.std.specs.List.{Contains}
use Rattle.way_tags.specs.declared.modes.TheConstants.{AUTO, PEDESTRIAN, BICYCLE, TRUCK, BUS, ALL, VEHICLES}

-- all modes
abbrev pub all_mode_bits : ℕ
all_mode_bits = ALL

-- the modes of vehicles: all but the pedestrian
abbrev pub vehicle_mode_bits : ℕ
vehicle_mode_bits = VEHICLES

-- the bit of one mode
abbrev pub IsMode : ℕ → Type 0
IsMode mode = Contains (AUTO ∷ PEDESTRIAN ∷ BICYCLE ∷ TRUCK ∷ BUS ∷ []) mode

-- the modes have the mode; where the second number has more bits, as the modes that are asked, they have one of these
abbrev pub ShareMode : ℕ → ℕ → Type 0
ShareMode modes mode = bit_and modes mode ≢ 0
