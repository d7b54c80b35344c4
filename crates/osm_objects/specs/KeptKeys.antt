-- The keys whose tags are kept: those that say who may use a road, and how.
use Rattle.std.specs.Prelude.{ℕ, nat_eq, Bool, ◌||◌, List, [], ◌∷◌, codes}
use Rattle.std.specs.List.{list_any, starts_with}
use Rattle.std.specs.Str.{bytes_eq}

abbrev pub road_keys : List (List ℕ)
road_keys = codes "highway" ∷ codes "area" ∷ codes "oneway" ∷ codes "oneway:bicycle" ∷ codes "oneway:bus" ∷ codes "oneway:psv"
    ∷ codes "junction" ∷ codes "name" ∷ codes "ref" ∷ []

abbrev pub access_keys : List (List ℕ)
access_keys = codes "access" ∷ codes "vehicle" ∷ codes "motor_vehicle" ∷ codes "motorcar" ∷ codes "hgv" ∷ codes "psv" ∷ codes "bus"
    ∷ codes "bicycle" ∷ codes "foot" ∷ codes "barrier" ∷ []

abbrev pub relation_keys : List (List ℕ)
relation_keys = codes "type" ∷ codes "except" ∷ codes "restriction" ∷ []

abbrev pub is_key_among : List ℕ → List (List ℕ) → Bool
is_key_among key keys = list_any (bytes_eq key) keys

-- it is one of them, or begins with `restriction:`
unfoldable pub is_kept : List ℕ → Bool
is_kept key = is_key_among key road_keys || is_key_among key access_keys || is_key_among key relation_keys || starts_with nat_eq key (codes "restriction:")
