-- In which directions a way is used.
use Rattle.std.specs.Prelude.{ℕ, Bool, true, false, ◌||◌, List, [], ◌∷◌, codes, find}
use Rattle.std.specs.Option.{option_map_or}
use Rattle.osm_model.specs.declared.tags.Tag.{Tag}
use Rattle.way_tags.specs.declared.directions.Dir.{Dir}
use Rattle.way_tags.specs.declared.directions.Dir.TheVariants as dirs
use Rattle.way_tags.specs.declared.directions.Oneway.{Oneway}
use Rattle.way_tags.specs.declared.directions.Oneway.TheVariants as ways
use Rattle.way_tags.specs.Modes.{Mode, auto, pedestrian, bicycle, truck, bus}
use Rattle.way_tags.specs.Values.{has_value_among}

-- a line of the table: where the key has one of the values, this is the answer
pub record OnewayRow : Type 0 where
  pub key : List ℕ
  pub values : List (List ℕ)
  pub answer : Oneway

abbrev pub oneways : List OnewayRow
oneways =
    record { key = codes "oneway"; values = codes "yes" ∷ codes "true" ∷ codes "1" ∷ []; answer = ways.Forward }
    ∷ record { key = codes "oneway"; values = codes "-1" ∷ codes "reverse" ∷ []; answer = ways.Backward }
    ∷ record { key = codes "oneway"; values = codes "no" ∷ codes "false" ∷ codes "0" ∷ []; answer = ways.Both }
    ∷ record { key = codes "junction"; values = codes "roundabout" ∷ codes "circular" ∷ []; answer = ways.Forward }
    ∷ record { key = codes "highway"; values = codes "motorway" ∷ []; answer = ways.Forward }
    ∷ []

-- the first line that holds decides, and otherwise the way is used in both directions
abbrev pub oneway_by_tags : List Tag → Oneway
oneway_by_tags tags = option_map_or (λ row. row.answer) (find (λ row. has_value_among tags row.key row.values) oneways) ways.Both

-- whether a way is used in a direction
abbrev pub is_along : Oneway → Dir → Bool
is_along ways.Both direction = true
is_along ways.Forward dirs.Forward = true
is_along ways.Forward dirs.Backward = false
is_along ways.Backward dirs.Forward = false
is_along ways.Backward dirs.Backward = true

-- whether a mode needn't heed that a way is used in one direction
abbrev pub is_exempt : List Tag → Mode → Bool
is_exempt tags auto = false
is_exempt tags truck = false
is_exempt tags pedestrian = true
is_exempt tags bicycle = has_value_among tags (codes "oneway:bicycle") (codes "no" ∷ [])
is_exempt tags bus = has_value_among tags (codes "oneway:bus") (codes "no" ∷ []) || has_value_among tags (codes "oneway:psv") (codes "no" ∷ [])
