-- Which values of the key `highway` make a way a road: its class, and the modes that may use it where no tag
-- of access says otherwise.
use Rattle.std.specs.Prelude.{ℕ, List, [], ◌∷◌, Option, codes, find}
use Rattle.way_tags.specs.Modes.{Mode, auto, pedestrian, bicycle, truck, bus, all_modes}
use Rattle.way_tags.specs.Values.{is_among}

pub record HighwayRow : Type 0 where
  pub values : List (List ℕ)
  pub class : ℕ
  pub modes : List Mode

abbrev pub highways : List HighwayRow
highways =
    record { values = codes "motorway" ∷ codes "motorway_link" ∷ []; class = 0; modes = auto ∷ truck ∷ bus ∷ [] }
    ∷ record { values = codes "trunk" ∷ codes "trunk_link" ∷ []; class = 1; modes = all_modes }
    ∷ record { values = codes "primary" ∷ codes "primary_link" ∷ []; class = 2; modes = all_modes }
    ∷ record { values = codes "secondary" ∷ codes "secondary_link" ∷ []; class = 3; modes = all_modes }
    ∷ record { values = codes "tertiary" ∷ codes "tertiary_link" ∷ []; class = 4; modes = all_modes }
    ∷ record { values = codes "unclassified" ∷ []; class = 5; modes = all_modes }
    ∷ record { values = codes "residential" ∷ []; class = 6; modes = all_modes }
    ∷ record { values = codes "living_street" ∷ codes "service" ∷ codes "road" ∷ []; class = 7; modes = all_modes }
    ∷ record { values = codes "track" ∷ codes "path" ∷ codes "cycleway" ∷ []; class = 7; modes = pedestrian ∷ bicycle ∷ [] }
    ∷ record { values = codes "footway" ∷ codes "pedestrian" ∷ codes "steps" ∷ codes "bridleway" ∷ []; class = 7; modes = pedestrian ∷ [] }
    ∷ []

-- the row of a value
abbrev pub highway_row : List ℕ → Option HighwayRow
highway_row value = find (λ row. is_among row.values value) highways
