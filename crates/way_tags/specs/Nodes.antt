-- What the tags of a node say: whether it is a barrier, and who may pass it.
use Rattle.std.specs.Prelude.{ℕ, Bool, true, false, not, List, [], ◌∷◌, codes, find, if◌then◌else◌, IsTrue}
use Rattle.std.specs.Option.{option_map_or}
use Rattle.std.specs.Str.{bytes_eq}
use Rattle.osm_model.specs.declared.tags.Tag.{Tag}
use Rattle.osm_model.specs.Tags.{value_of}
use Rattle.way_tags.specs.Modes.{Mode, pedestrian, bicycle, bus, all_modes, is_listed, word_of}
use Rattle.way_tags.specs.Values.{is_among}
use Rattle.way_tags.specs.Access.{keys_of, decision}

-- whether a node is a barrier: it has the key `barrier`, with a value other than `no`
abbrev pub is_barrier_node : List Tag → Bool
is_barrier_node tags = option_map_or (λ value. not (bytes_eq value (codes "no"))) (value_of (codes "barrier") tags) false

-- a line of the table: the modes that pass a barrier with one of these values where no tag of access says
-- otherwise
pub record BarrierRow : Type 0 where
  pub values : List (List ℕ)
  pub modes : List Mode

abbrev pub barriers : List BarrierRow
barriers =
    record { values = codes "bollard" ∷ codes "block" ∷ codes "cycle_barrier" ∷ []; modes = pedestrian ∷ bicycle ∷ [] }
    ∷ record { values = codes "bus_trap" ∷ []; modes = pedestrian ∷ bicycle ∷ bus ∷ [] }
    ∷ record { values = codes "stile" ∷ codes "turnstile" ∷ codes "kissing_gate" ∷ []; modes = pedestrian ∷ [] }
    ∷ []

-- the modes of a value; a value that isn't in the table lets every mode pass
abbrev pub barrier_modes : List ℕ → List Mode
barrier_modes value = option_map_or (λ row. row.modes) (find (λ row. is_among row.values value) barriers) all_modes

-- whether a mode may pass a barrier with that value
abbrev pub passes_barrier : List Tag → Mode → List ℕ → Bool
passes_barrier tags mode value = decision tags (keys_of mode) (is_listed (barrier_modes value) mode)

-- whether a mode may pass a node: each may where it is no barrier
abbrev pub is_passed : List Tag → Mode → Bool
is_passed tags mode =
    if is_barrier_node tags then option_map_or (passes_barrier tags mode) (value_of (codes "barrier") tags) true else true

abbrev pub PassesNode : List Tag → Mode → Type 0
PassesNode tags mode = IsTrue (is_passed tags mode)

-- the modes that may pass, as a number
abbrev pub node_modes : List Tag → ℕ
node_modes tags = word_of (is_passed tags)
