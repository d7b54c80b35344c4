-- The tags that say who may use a way or pass a node.
use Rattle.std.specs.Prelude.{ℕ, Bool, true, false, List, [], ◌∷◌, Option, Some, None, codes, unwrap_or, option_and_then, if◌then◌else◌}
use Rattle.std.specs.Str.{bytes_eq}
use Rattle.osm_model.specs.declared.tags.Tag.{Tag}
use Rattle.osm_model.specs.Tags.{value_of}
use Rattle.way_tags.specs.Modes.{Mode, auto, pedestrian, bicycle, truck, bus}
use Rattle.way_tags.specs.Values.{is_among}

-- the keys that speak of a mode, in the order in which they are tried
abbrev pub keys_of : Mode → List (List ℕ)
keys_of auto = codes "motorcar" ∷ codes "motor_vehicle" ∷ codes "vehicle" ∷ codes "access" ∷ []
keys_of truck = codes "hgv" ∷ codes "motor_vehicle" ∷ codes "vehicle" ∷ codes "access" ∷ []
keys_of bus = codes "bus" ∷ codes "psv" ∷ codes "motor_vehicle" ∷ codes "vehicle" ∷ codes "access" ∷ []
keys_of bicycle = codes "bicycle" ∷ codes "vehicle" ∷ codes "access" ∷ []
keys_of pedestrian = codes "foot" ∷ codes "access" ∷ []

abbrev pub permitting_values : List (List ℕ)
permitting_values =
    codes "yes" ∷ codes "designated" ∷ codes "permissive" ∷ codes "destination" ∷ codes "customers" ∷ codes "delivery" ∷ codes "official" ∷ codes "public" ∷ []

abbrev pub refusing_values : List (List ℕ)
refusing_values =
    codes "no" ∷ codes "private" ∷ codes "agricultural" ∷ codes "forestry" ∷ codes "use_sidepath" ∷ codes "dismount" ∷ []

-- what a value says: that the mode may, that it may not, or nothing where it isn't known
abbrev pub meaning : List ℕ → Option Bool
meaning value = if is_among refusing_values value then Some false else if is_among permitting_values value then Some true else None

-- `access` with a value that permits is passed over
abbrev pub without_leave : Option Bool → Option Bool
without_leave (Some false) = Some false
without_leave (Some true) = None
without_leave None = None

-- what a key with a value says
abbrev pub meaning_at : List ℕ → List ℕ → Option Bool
meaning_at key value = if bytes_eq key (codes "access") then without_leave (meaning value) else meaning value

-- The first key that is there with a known value decides whether a mode may. Where none does, the default stands.
abbrev pub decision : List Tag → List (List ℕ) → Bool → Bool
decision tags [] default = default
decision tags (key ∷ keys) default = unwrap_or (option_and_then (meaning_at key) (value_of key tags)) (decision tags keys default)
