-- What is asked of a tag's value.
use Rattle.std.specs.Prelude.{ℕ, Bool, false, List}
use Rattle.std.specs.List.{list_any}
use Rattle.std.specs.Option.{option_map_or}
use Rattle.std.specs.Str.{bytes_eq}
use Rattle.osm_model.specs.declared.tags.Tag.{Tag}
use Rattle.osm_model.specs.Tags.{value_of}

-- whether a value is one of a list, byte for byte
abbrev pub is_among : List (List ℕ) → List ℕ → Bool
is_among values value = list_any (λ other. bytes_eq value other) values

-- whether the key is there and its value is one of a list
abbrev pub has_value_among : List Tag → List ℕ → List (List ℕ) → Bool
has_value_among tags key values = option_map_or (is_among values) (value_of key tags) false
