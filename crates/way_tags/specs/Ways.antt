-- What the tags of a way say: whether it is a road, of which class, and who may use it in which direction.
use Rattle.std.specs.Prelude.{ℕ, Bool, false, ◌&&◌, ◌||◌, ◌⊎◌, List, [], ◌∷◌, Option, None, codes, option_map, option_and_then, if◌then◌else◌, IsTrue}
use Rattle.std.specs.Option.{option_map_or}
use Rattle.osm_model.specs.declared.tags.Tag.{Tag}
use Rattle.osm_model.specs.Tags.{value_of}
use Rattle.way_tags.specs.declared.directions.Dir.{Dir}
use Rattle.way_tags.specs.Modes.{Mode, is_listed, word_of}
use Rattle.way_tags.specs.Values.{has_value_among}
use Rattle.way_tags.specs.Highways.{HighwayRow, highway_row}
use Rattle.way_tags.specs.Access.{keys_of, decision}
use Rattle.way_tags.specs.Oneways.{oneway_by_tags, is_along, is_exempt}

-- the line of the table for a way: none where `highway` isn't there or has another value, or for an area
abbrev pub road_row : List Tag → Option HighwayRow
road_row tags =
    if has_value_among tags (codes "area") (codes "yes" ∷ []) then None else option_and_then highway_row (value_of (codes "highway") tags)

-- the class of a road, from 0, motorway, to 7; a way without one is no road
abbrev pub road_class : List Tag → Option ℕ
road_class tags = option_map (λ row. row.class) (road_row tags)

-- whether a mode may use a road with that row by its tags of access
abbrev pub is_open_by : List Tag → Mode → HighwayRow → Bool
is_open_by tags mode row = decision tags (keys_of mode) (is_listed row.modes mode)

-- whether it is a road, and its tags of access permit the mode
abbrev pub is_open : List Tag → Mode → Bool
is_open tags mode = option_map_or (is_open_by tags mode) (road_row tags) false

-- A mode may use a way in a direction: the way is a road that is open to the mode, and it is used in that
-- direction or the mode needn't heed that.
pub record Permits (tags : List Tag) (direction : Dir) (mode : Mode) : Type 0 where
  pub open_to : IsTrue (is_open tags mode)
  pub along : IsTrue (is_along (oneway_by_tags tags) direction) ⊎ IsTrue (is_exempt tags mode)

-- the same as a test, and the modes for which it holds as a number
abbrev pub is_permitted : List Tag → Dir → Mode → Bool
is_permitted tags direction mode = is_open tags mode && (is_along (oneway_by_tags tags) direction || is_exempt tags mode)

abbrev pub road_access : List Tag → Dir → ℕ
road_access tags direction = word_of (is_permitted tags direction)
