-- The keys of access, from the one that is tried last to the one that is tried first: each overrides those
-- before it for its modes, so for each mode the first key that says something decides.
use Rattle.std.proofs.Common.{◌≡◌, ℕ, Bool, true, false, cond, refl, sym, ap, ◌∙◌, List, [], ◌∷◌, inl, inr}
use Rattle.std.specs.Prelude.{codes, unwrap_or, option_and_then, option_map, Option, Some, None, IsTrue, ◌↔◌, ◌||◌, ◌⊎◌, not}
use Rattle.std.specs.Option.{option_map_or}
use Rattle.std.specs.Str.{bytes_eq}
use Rattle.std.proofs.lemmas.Option.{same_Some}
use Rattle.std.proofs.lemmas.Bool.{and_parts, or_cases, and_from, or_left, or_right}
use Rattle.osm_model.specs.declared.tags.Tag.{Tag}
use Rattle.osm_model.specs.Tags.{value_of}
use Rattle.way_tags.specs.declared.directions.Dir.{Dir}
use Rattle.way_tags.specs.declared.highways.Road.{Road}
use Rattle.way_tags.specs.Modes.{Mode, auto, pedestrian, bicycle, truck, bus, word_of, is_listed}
use Rattle.way_tags.specs.Access.{keys_of, decision, meaning, meaning_at, without_leave}
use Rattle.way_tags.specs.Highways.{HighwayRow}
use Rattle.way_tags.specs.Oneways.{oneway_by_tags, is_along, is_exempt}
use Rattle.way_tags.specs.Ways.{is_open, is_open_by, is_permitted, Permits}
use Rattle.way_tags.specs.Nodes.{node_modes, barrier_modes, passes_barrier}

-- a mode after a verdict on the modes of a list
abbrev pub laid : List Mode → Option Bool → (Mode → Bool) → Mode → Bool
laid modes verdict f mode = unwrap_or (cond (is_listed modes mode) verdict None) (f mode)

-- a mode after all verdicts
abbrev pub laid_all : (by_access by_vehicle by_motor by_motorcar by_hgv by_psv by_bus by_bicycle by_foot : Option Bool) → (Mode → Bool) → Mode → Bool
laid_all by_access by_vehicle by_motor by_motorcar by_hgv by_psv by_bus by_bicycle by_foot f =
    laid (pedestrian ∷ []) by_foot (laid (bicycle ∷ []) by_bicycle (laid (bus ∷ []) by_bus (laid (bus ∷ []) by_psv (laid (truck ∷ []) by_hgv (laid (auto ∷ []) by_motorcar (laid (auto ∷ truck ∷ bus ∷ []) by_motor (laid (auto ∷ bicycle ∷ truck ∷ bus ∷ []) by_vehicle (laid (auto ∷ pedestrian ∷ bicycle ∷ truck ∷ bus ∷ []) by_access f))))))))

-- what a key says of an object with these tags
abbrev pub said : List Tag → List ℕ → Option Bool
said tags key = option_and_then meaning (value_of key tags)

refused_at : (o : Option (List ℕ)) → without_leave (option_and_then meaning o) ≡ option_and_then (meaning_at (codes "access")) o
refused_at None = refl
refused_at (Some value) = refl

pub all_laid : (tags : List Tag) (f : Mode → Bool) → word_of (laid_all (without_leave (said tags (codes "access"))) (said tags (codes "vehicle")) (said tags (codes "motor_vehicle")) (said tags (codes "motorcar")) (said tags (codes "hgv")) (said tags (codes "psv")) (said tags (codes "bus")) (said tags (codes "bicycle")) (said tags (codes "foot")) f) ≡ word_of (λ mode. decision tags (keys_of mode) (f mode))
all_laid tags f =
    ap (λ a. word_of (laid_all a (said tags (codes "vehicle")) (said tags (codes "motor_vehicle")) (said tags (codes "motorcar")) (said tags (codes "hgv")) (said tags (codes "psv")) (said tags (codes "bus")) (said tags (codes "bicycle")) (said tags (codes "foot")) f))
    (refused_at (value_of (codes "access") tags))

-- a road is open as its row's default and its tags say
pub open_by_row : (tags : List Tag) (row : Option HighwayRow) (road : Road) (modes : ℕ) → Some road ≡ option_map (λ (r : HighwayRow). record { class = r.class; modes = word_of (is_listed r.modes) }) row → ((f : Mode → Bool) → road.modes ≡ word_of f → modes ≡ word_of (λ mode. decision tags (keys_of mode) (f mode))) → modes ≡ word_of (λ mode. option_map_or (is_open_by tags mode) row false)
open_by_row tags None road modes e h = absurd (cc)
open_by_row tags (Some row) road modes e h = h (is_listed row.modes) (ap (λ (r : Road). r.modes) (same_Some road (record { class = row.class; modes = word_of (is_listed row.modes) }) e))

-- a barrier is passed as its value's default and its tags say
pub passed_by_value : (tags : List Tag) (value : List ℕ) (modes : ℕ) → value_of (codes "barrier") tags ≡ Some value → bytes_eq value (codes "no") ≡ false → modes ≡ word_of (λ mode. decision tags (keys_of mode) (is_listed (barrier_modes value) mode)) → modes ≡ node_modes tags
passed_by_value tags value modes there other e =
    e ∙ ap (λ b. word_of (λ mode. cond (not b) (passes_barrier tags mode value) true)) (sym other)
    ∙ ap (λ o. word_of (λ mode. cond (option_map_or (λ v. not (bytes_eq v (codes "no"))) o false) (option_map_or (passes_barrier tags mode) o true) true)) (sym there)

-- the test of permission is the permission
pub permits_tested : (tags : List Tag) (direction : Dir) (mode : Mode) → (is_permitted tags direction mode ≡ true) ↔ Permits tags direction mode
permits_tested tags direction mode = (
  λ h.
      let parts : (is_open tags mode ≡ true) × ((is_along (oneway_by_tags tags) direction || is_exempt tags mode) ≡ true) = and_parts (is_open tags mode) (is_along (oneway_by_tags tags) direction || is_exempt tags mode) h in
      record { open_to = parts.0; along = or_cases (is_along (oneway_by_tags tags) direction) (is_exempt tags mode) parts.1 },
  λ h. and_from (is_open tags mode) (is_along (oneway_by_tags tags) direction || is_exempt tags mode) h.open_to (goes h.along),
)
  where
    goes : IsTrue (is_along (oneway_by_tags tags) direction) ⊎ IsTrue (is_exempt tags mode) → (is_along (oneway_by_tags tags) direction || is_exempt tags mode) ≡ true
    goes (inl h) = or_left (is_along (oneway_by_tags tags) direction) (is_exempt tags mode) h
    goes (inr h) = or_right (is_along (oneway_by_tags tags) direction) (is_exempt tags mode) h
