-- Whom a restriction leaves out: the key `except`.
use Rattle.std.specs.Prelude.{ℕ, ◌==◌, Bool, false, ◌&&◌, not, List, [], ◌∷◌, codes, find, reverse, if◌then◌else◌}
use Rattle.std.specs.List.{list_any, slice_split}
use Rattle.std.specs.Option.{option_map_or}
use Rattle.osm_model.specs.declared.tags.Tag.{Tag}
use Rattle.osm_model.specs.Tags.{value_of}
use Rattle.way_tags.specs.Modes.{Mode, auto, bicycle, truck, bus, is_listed, word_of}
use Rattle.way_tags.specs.Values.{is_among}
use Rattle.osm_restrictions.specs.Keys.{is_spoken_of}

-- a text without the spaces at its front, and without those at both ends
abbrev pub past_spaces : List ℕ → List ℕ
past_spaces [] = []
past_spaces (byte ∷ bytes) = if byte == 32 then past_spaces bytes else byte ∷ bytes

abbrev pub without_spaces : List ℕ → List ℕ
without_spaces text = reverse (past_spaces (reverse (past_spaces text)))

-- a part, and the modes that it takes away
pub record ExceptRow : Type 0 where
  pub values : List (List ℕ)
  pub modes : List Mode

abbrev pub exceptions : List ExceptRow
exceptions =
    record { values = codes "bicycle" ∷ []; modes = bicycle ∷ [] }
    ∷ record { values = codes "bus" ∷ codes "psv" ∷ []; modes = bus ∷ [] }
    ∷ record { values = codes "hgv" ∷ []; modes = truck ∷ [] }
    ∷ record { values = codes "motorcar" ∷ []; modes = auto ∷ [] }
    ∷ record { values = codes "motor_vehicle" ∷ []; modes = auto ∷ truck ∷ bus ∷ [] }
    ∷ []

abbrev pub is_taken_away : List ℕ → Mode → Bool
is_taken_away part mode = option_map_or (λ row. is_listed row.modes mode) (find (λ row. is_among row.values part) exceptions) false

-- the same modes as a number
unfoldable pub taken_modes : List ℕ → ℕ
taken_modes part = word_of (is_taken_away (without_spaces part))

-- the value is cut at each semicolon, and the spaces are taken off both ends of each part
abbrev pub is_excepted_by : List ℕ → Mode → Bool
is_excepted_by value mode = list_any (λ part. is_taken_away (without_spaces part) mode) (slice_split (λ byte. byte == 59) value)

abbrev pub is_excepted : List Tag → Mode → Bool
is_excepted tags mode = option_map_or (λ value. is_excepted_by value mode) (value_of (codes "except") tags) false

-- the modes that are restricted: those of which the deciding key speaks, without those that are excepted
abbrev pub is_restricted : List Tag → Mode → Bool
is_restricted tags mode = is_spoken_of tags mode && not (is_excepted tags mode)

abbrev pub restricted_modes : List Tag → ℕ
restricted_modes tags = word_of (is_restricted tags)
