-- Computing helpers of the pass over the tags of an object: the keys that are known, by number. No public
-- clause speaks of them.
use Rattle.std.specs.Prelude.{◌≡◌, ℕ, ◌<◌, ◌==◌, List, [], ◌∷◌, codes, length, drop, option_map, slice_get, slice_index, slice_index_or, if◌then◌else◌}
use Rattle.osm_model.specs.declared.tags.Tag.{Tag}
use Rattle.osm_model.specs.Tags.{value_of}
use Rattle.way_tags.specs.declared.known_keys.TheConstants.{HIGHWAY, AREA, ONEWAY, JUNCTION, ONEWAY_BICYCLE, ONEWAY_BUS, ONEWAY_PSV, BARRIER, ACCESS, VEHICLE, MOTOR_VEHICLE, MOTORCAR, HGV, PSV, BUS_KEY, BICYCLE_KEY, FOOT, NAME, REF, KEY_COUNT}

abbrev pub known_keys : List (List ℕ)
known_keys =
    codes "highway" ∷ codes "area" ∷ codes "oneway" ∷ codes "junction" ∷ codes "oneway:bicycle" ∷ codes "oneway:bus" ∷ codes "oneway:psv" ∷ codes "barrier" ∷ codes "access" ∷ codes "vehicle" ∷ codes "motor_vehicle" ∷ codes "motorcar" ∷ codes "hgv" ∷ codes "psv" ∷ codes "bus" ∷ codes "bicycle" ∷ codes "foot" ∷ codes "name" ∷ codes "ref" ∷ []

-- the key of a number
abbrev pub known_key : ℕ → List ℕ
known_key number = slice_index_or known_keys number []

-- the number of the one key that a text may be, by its length and one byte
abbrev pub likely_number : List ℕ → ℕ
likely_number key =
    if length key == 3 then (if slice_index key 0 == 104 then HGV else if slice_index key 0 == 112 then PSV else if slice_index key 0 == 98 then BUS_KEY else REF)
    else if length key == 4 then (if slice_index key 0 == 97 then AREA else if slice_index key 0 == 110 then NAME else FOOT)
    else if length key == 6 then (if slice_index key 0 == 111 then ONEWAY else ACCESS)
    else if length key == 7 then (if slice_index key 2 == 103 then HIGHWAY else if slice_index key 2 == 104 then VEHICLE else if slice_index key 2 == 99 then BICYCLE_KEY else BARRIER)
    else if length key == 8 then (if slice_index key 0 == 106 then JUNCTION else MOTORCAR)
    else if length key == 10 then (if slice_index key 7 == 98 then ONEWAY_BUS else ONEWAY_PSV)
    else if length key == 13 then MOTOR_VEHICLE
    else if length key == 14 then ONEWAY_BICYCLE
    else KEY_COUNT

-- for each known key, where its first tag stands, of the tags from a place on
abbrev pub ArePlaces : List Tag → ℕ → List ℕ → Type 0
ArePlaces tags from places =
    (number : ℕ) → number < KEY_COUNT → option_map (λ tag. tag.value) (slice_get tags (slice_index places number)) ≡ value_of (known_key number) (drop from tags)
