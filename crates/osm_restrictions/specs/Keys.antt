-- The keys that say what a restriction is.
use Rattle.std.specs.Prelude.{ℕ, Bool, false, ◌&&◌, not, List, [], ◌∷◌, Option, codes, find, is_some, nat_eq, option_and_then}
use Rattle.std.specs.List.{list_any, starts_with, ends_with}
use Rattle.std.specs.Option.{option_map_or}
use Rattle.osm_model.specs.declared.tags.Tag.{Tag}
use Rattle.osm_model.specs.Tags.{value_of}
use Rattle.way_tags.specs.Modes.{Mode, auto, bicycle, truck, bus, is_listed}
use Rattle.way_tags.specs.Values.{has_value_among}

-- a relation is a restriction of turns
abbrev pub is_restriction : List Tag → Bool
is_restriction tags = has_value_among tags (codes "type") (codes "restriction" ∷ [])

-- a key, and the modes of which it speaks
pub record RestrictionKey : Type 0 where
  pub key : List ℕ
  pub modes : List Mode

abbrev pub restriction_keys : List RestrictionKey
restriction_keys =
    record { key = codes "restriction"; modes = auto ∷ bicycle ∷ truck ∷ bus ∷ [] }
    ∷ record { key = codes "restriction:motorcar"; modes = auto ∷ [] }
    ∷ record { key = codes "restriction:hgv"; modes = truck ∷ [] }
    ∷ record { key = codes "restriction:bus"; modes = bus ∷ [] }
    ∷ record { key = codes "restriction:bicycle"; modes = bicycle ∷ [] }
    ∷ []

-- the first of these keys that is there decides, whatever its value
abbrev pub deciding_key : List Tag → Option RestrictionKey
deciding_key tags = find (λ row. is_some (value_of row.key tags)) restriction_keys

abbrev pub deciding_value : List Tag → Option (List ℕ)
deciding_value tags = option_and_then (λ row. value_of row.key tags) (deciding_key tags)

abbrev pub is_spoken_of : List Tag → Mode → Bool
is_spoken_of tags mode = option_map_or (λ row. is_listed row.modes mode) (deciding_key tags) false

-- a key that speaks of a restriction under a condition
abbrev pub is_conditional_key : List ℕ → Bool
is_conditional_key key = starts_with nat_eq key (codes "restriction") && ends_with nat_eq key (codes ":conditional")

-- a restriction is told under a condition alone
abbrev pub is_conditional : List Tag → Bool
is_conditional tags = not (is_some (deciding_key tags)) && list_any (λ tag. is_conditional_key tag.key) tags
