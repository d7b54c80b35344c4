-- How a way is named.
use Rattle.std.specs.Prelude.{ℕ, List, [], ◌∷◌, ◌++◌, Option, Some, None, codes}
use Rattle.std.specs.List.{dedup}
use Rattle.std.specs.Str.{bytes_eq}
use Rattle.osm_model.specs.declared.tags.Tag.{Tag}
use Rattle.osm_model.specs.Tags.{value_of}

-- a value that is there and isn't empty
abbrev pub shown_text : Option (List ℕ) → List (List ℕ)
shown_text None = []
shown_text (Some []) = []
shown_text (Some (byte ∷ bytes)) = (byte ∷ bytes) ∷ []

-- the value of `name`, then that of `ref`, each where it is shown, and the same text once
abbrev pub road_names : List Tag → List (List ℕ)
road_names tags = dedup bytes_eq (shown_text (value_of (codes "name") tags) ++ shown_text (value_of (codes "ref") tags))
