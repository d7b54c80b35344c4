-- The definitions, computed on small lists of tags whose answers were read off the tables by hand.
use Prim.Native.String.{String}
use Rattle.std.proofs.Common.{◌≡◌, ℕ, List, [], ◌∷◌, map, refl}
use Rattle.std.specs.Prelude.{codes, Option, Some, None, true, false}
use Rattle.osm_model.specs.declared.tags.Tag.{Tag}
use Rattle.way_tags.specs.declared.directions.Dir.TheVariants as dirs
use Rattle.way_tags.specs.declared.directions.Oneway.{Oneway}
use Rattle.way_tags.specs.declared.directions.Oneway.TheVariants as ways
use Rattle.way_tags.specs.Ways.{road_class, road_access}
use Rattle.way_tags.specs.Oneways.{oneway_by_tags}
use Rattle.way_tags.specs.Nodes.{is_barrier_node, node_modes}
use Rattle.way_tags.specs.Names.{road_names}

abbrev tag : String → String → Tag
tag key value = record { key = codes key; value = codes value }

-- a way with one tag: its class, and its access forward
abbrev class_by : String → Option ℕ
class_by highway = road_class (tag "highway" highway ∷ [])

abbrev access_by : String → ℕ
access_by highway = road_access (tag "highway" highway ∷ []) dirs.Forward

class_0 : map class_by ("motorway" ∷ "motorway_link" ∷ []) ≡ Some 0 ∷ Some 0 ∷ []
class_0 = refl

class_1 : map class_by ("trunk" ∷ "trunk_link" ∷ []) ≡ Some 1 ∷ Some 1 ∷ []
class_1 = refl

class_2 : map class_by ("primary" ∷ "primary_link" ∷ []) ≡ Some 2 ∷ Some 2 ∷ []
class_2 = refl

class_3 : map class_by ("secondary" ∷ "secondary_link" ∷ []) ≡ Some 3 ∷ Some 3 ∷ []
class_3 = refl

class_4 : map class_by ("tertiary" ∷ "tertiary_link" ∷ []) ≡ Some 4 ∷ Some 4 ∷ []
class_4 = refl

class_5_and_6 : map class_by ("unclassified" ∷ "residential" ∷ []) ≡ Some 5 ∷ Some 6 ∷ []
class_5_and_6 = refl

class_7 : map class_by ("living_street" ∷ "service" ∷ "road" ∷ "track" ∷ "path" ∷ "cycleway" ∷ "footway" ∷ "pedestrian" ∷ "steps" ∷ "bridleway" ∷ []) ≡ Some 7 ∷ Some 7 ∷ Some 7 ∷ Some 7 ∷ Some 7 ∷ Some 7 ∷ Some 7 ∷ Some 7 ∷ Some 7 ∷ Some 7 ∷ []
class_7 = refl

no_class : map class_by ("" ∷ "proposed" ∷ "Motorway" ∷ "motorway " ∷ "primary_link_" ∷ "yes" ∷ []) ≡ None ∷ None ∷ None ∷ None ∷ None ∷ None ∷ []
no_class = refl

-- no tag; the value under another key; an area; an area that is none; a key twice
class_of_others : road_class [] ≡ None
class_of_others = refl

class_of_other_key : road_class (tag "highways" "primary" ∷ tag "railway" "primary" ∷ []) ≡ None
class_of_other_key = refl

class_of_area : road_class (tag "highway" "pedestrian" ∷ tag "area" "yes" ∷ []) ≡ None
class_of_area = refl

class_of_no_area : road_class (tag "area" "no" ∷ tag "highway" "pedestrian" ∷ tag "area" "yes" ∷ []) ≡ Some 7
class_of_no_area = refl

class_at_first_place : road_class (tag "highway" "proposed" ∷ tag "highway" "primary" ∷ []) ≡ None
class_at_first_place = refl

access_by_default : map access_by ("motorway" ∷ "motorway_link" ∷ "trunk" ∷ "trunk_link" ∷ "primary" ∷ "primary_link" ∷ "secondary" ∷ "secondary_link" ∷ "tertiary" ∷ "tertiary_link" ∷ []) ≡ 73 ∷ 73 ∷ 79 ∷ 79 ∷ 79 ∷ 79 ∷ 79 ∷ 79 ∷ 79 ∷ 79 ∷ []
access_by_default = refl

access_by_default_of_others : map access_by ("unclassified" ∷ "residential" ∷ "living_street" ∷ "service" ∷ "road" ∷ "track" ∷ "path" ∷ "cycleway" ∷ "footway" ∷ "pedestrian" ∷ "steps" ∷ "bridleway" ∷ "proposed" ∷ []) ≡ 79 ∷ 79 ∷ 79 ∷ 79 ∷ 79 ∷ 6 ∷ 6 ∷ 6 ∷ 2 ∷ 2 ∷ 2 ∷ 2 ∷ 0 ∷ []
access_by_default_of_others = refl

-- one tag of access on a residential way, open to all (79), and on a footway, open to pedestrians (2)
abbrev street : String → String → ℕ
street key value = road_access (tag "highway" "residential" ∷ tag key value ∷ []) dirs.Backward

abbrev footway : String → String → ℕ
footway key value = road_access (tag key value ∷ tag "highway" "footway" ∷ []) dirs.Forward

values_that_permit : map (λ value. footway "bicycle" value) ("yes" ∷ "designated" ∷ "permissive" ∷ "destination" ∷ "customers" ∷ "delivery" ∷ "official" ∷ "public" ∷ []) ≡ 6 ∷ 6 ∷ 6 ∷ 6 ∷ 6 ∷ 6 ∷ 6 ∷ 6 ∷ []
values_that_permit = refl

values_that_refuse : map (λ value. street "bicycle" value) ("no" ∷ "private" ∷ "agricultural" ∷ "forestry" ∷ "use_sidepath" ∷ "dismount" ∷ []) ≡ 75 ∷ 75 ∷ 75 ∷ 75 ∷ 75 ∷ 75 ∷ []
values_that_refuse = refl

values_unknown : map (λ value. street "foot" value) ("" ∷ "unknown" ∷ "No" ∷ "permit" ∷ "limited" ∷ []) ≡ 79 ∷ 79 ∷ 79 ∷ 79 ∷ 79 ∷ []
values_unknown = refl

keys_refuse : map (λ key. street key "no") ("access" ∷ "vehicle" ∷ "motor_vehicle" ∷ "motorcar" ∷ "hgv" ∷ "psv" ∷ "bus" ∷ "bicycle" ∷ "foot" ∷ "tourist_bus" ∷ []) ≡ 0 ∷ 2 ∷ 6 ∷ 78 ∷ 71 ∷ 15 ∷ 15 ∷ 75 ∷ 77 ∷ 79 ∷ []
keys_refuse = refl

keys_permit : map (λ key. footway key "yes") ("access" ∷ "vehicle" ∷ "motor_vehicle" ∷ "motorcar" ∷ "hgv" ∷ "psv" ∷ "bus" ∷ "bicycle" ∷ "foot" ∷ []) ≡ 2 ∷ 79 ∷ 75 ∷ 3 ∷ 10 ∷ 66 ∷ 66 ∷ 6 ∷ 2 ∷ []
keys_permit = refl

-- pairs of keys: the earlier key of a mode decides, wherever it stands; an unknown value decides nothing
abbrev street_of : List Tag → ℕ
street_of tags = road_access (tag "highway" "service" ∷ tags) dirs.Forward

motorcar_before_motor_vehicle : street_of (tag "motor_vehicle" "no" ∷ tag "motorcar" "yes" ∷ []) ≡ 7
motorcar_before_motor_vehicle = refl

hgv_before_motor_vehicle : street_of (tag "hgv" "delivery" ∷ tag "motor_vehicle" "private" ∷ []) ≡ 14
hgv_before_motor_vehicle = refl

bus_before_psv : street_of (tag "psv" "yes" ∷ tag "bus" "no" ∷ []) ≡ 15
bus_before_psv = refl

psv_before_motor_vehicle : street_of (tag "motor_vehicle" "no" ∷ tag "psv" "yes" ∷ []) ≡ 70
psv_before_motor_vehicle = refl

motor_vehicle_before_vehicle : street_of (tag "vehicle" "no" ∷ tag "motor_vehicle" "destination" ∷ []) ≡ 75
motor_vehicle_before_vehicle = refl

bicycle_before_vehicle : street_of (tag "vehicle" "no" ∷ tag "bicycle" "yes" ∷ []) ≡ 6
bicycle_before_vehicle = refl

vehicle_before_access : street_of (tag "access" "no" ∷ tag "vehicle" "permissive" ∷ []) ≡ 77
vehicle_before_access = refl

foot_before_access : street_of (tag "access" "private" ∷ tag "foot" "yes" ∷ []) ≡ 2
foot_before_access = refl

unknown_before_access : street_of (tag "bus" "unknown" ∷ tag "psv" "" ∷ tag "vehicle" "no" ∷ []) ≡ 2
unknown_before_access = refl

access_that_permits : road_access (tag "access" "yes" ∷ tag "highway" "cycleway" ∷ []) dirs.Forward ≡ 6
access_that_permits = refl

access_at_first_place : street_of (tag "access" "yes" ∷ tag "access" "no" ∷ []) ≡ 79
access_at_first_place = refl

-- one-way
abbrev one_way : String → String → Oneway
one_way key value = oneway_by_tags (tag "highway" "primary" ∷ tag key value ∷ [])

oneway_values : map (one_way "oneway") ("yes" ∷ "true" ∷ "1" ∷ "-1" ∷ "reverse" ∷ "no" ∷ "false" ∷ "0" ∷ "" ∷ "reversible" ∷ []) ≡ ways.Forward ∷ ways.Forward ∷ ways.Forward ∷ ways.Backward ∷ ways.Backward ∷ ways.Both ∷ ways.Both ∷ ways.Both ∷ ways.Both ∷ ways.Both ∷ []
oneway_values = refl

junction_values : map (one_way "junction") ("roundabout" ∷ "circular" ∷ "jughandle" ∷ "" ∷ []) ≡ ways.Forward ∷ ways.Forward ∷ ways.Both ∷ ways.Both ∷ []
junction_values = refl

oneway_of_motorways : map (λ value. oneway_by_tags (tag "highway" value ∷ [])) ("motorway" ∷ "motorway_link" ∷ "trunk" ∷ []) ≡ ways.Forward ∷ ways.Both ∷ ways.Both ∷ []
oneway_of_motorways = refl

oneway_before_junction : map (λ value. oneway_by_tags (tag "junction" "roundabout" ∷ tag "oneway" value ∷ [])) ("-1" ∷ "no" ∷ "1" ∷ "alternating" ∷ []) ≡ ways.Backward ∷ ways.Both ∷ ways.Forward ∷ ways.Forward ∷ []
oneway_before_junction = refl

oneway_before_motorway : map (λ value. oneway_by_tags (tag "highway" "motorway" ∷ tag "oneway" value ∷ [])) ("reverse" ∷ "0" ∷ "maybe" ∷ []) ≡ ways.Backward ∷ ways.Both ∷ ways.Forward ∷ []
oneway_before_motorway = refl

oneway_at_first_place : oneway_by_tags (tag "oneway" "no" ∷ tag "oneway" "yes" ∷ []) ≡ ways.Both
oneway_at_first_place = refl

-- against a one-way: pedestrians always, others by a key of their own
abbrev against : List Tag → ℕ
against tags = road_access (tag "highway" "primary" ∷ tag "oneway" "yes" ∷ tags) dirs.Backward

pedestrians_against : against [] ≡ 2
pedestrians_against = refl

bicycles_against : against (tag "oneway:bicycle" "no" ∷ []) ≡ 6
bicycles_against = refl

buses_against : map (λ key. against (tag key "no" ∷ [])) ("oneway:bus" ∷ "oneway:psv" ∷ []) ≡ 66 ∷ 66 ∷ []
buses_against = refl

all_against : against (tag "oneway:bus" "yes" ∷ tag "oneway:psv" "no" ∷ tag "oneway:bicycle" "no" ∷ []) ≡ 70
all_against = refl

others_against : against (tag "oneway:bicycle" "yes" ∷ tag "oneway:bus" "" ∷ tag "oneway:psv" "-1" ∷ tag "oneway:foot" "no" ∷ []) ≡ 2
others_against = refl

refused_against : against (tag "oneway:bicycle" "no" ∷ tag "bicycle" "no" ∷ tag "foot" "no" ∷ []) ≡ 0
refused_against = refl

along_is_open : road_access (tag "highway" "primary" ∷ tag "oneway" "yes" ∷ []) dirs.Forward ≡ 79
along_is_open = refl

backward_only : road_access (tag "highway" "primary" ∷ tag "oneway" "-1" ∷ []) dirs.Forward ≡ 2
backward_only = refl

backward_is_open : road_access (tag "highway" "primary" ∷ tag "oneway" "-1" ∷ []) dirs.Backward ≡ 79
backward_is_open = refl

motorway_against : road_access (tag "highway" "motorway" ∷ []) dirs.Backward ≡ 0
motorway_against = refl

area_is_closed : road_access (tag "highway" "pedestrian" ∷ tag "area" "yes" ∷ tag "foot" "yes" ∷ []) dirs.Forward ≡ 0
area_is_closed = refl

-- nodes
abbrev passes : String → ℕ
passes barrier = node_modes (tag "barrier" barrier ∷ [])

barrier_defaults : map passes ("bollard" ∷ "block" ∷ "cycle_barrier" ∷ "bus_trap" ∷ "stile" ∷ "turnstile" ∷ "kissing_gate" ∷ "gate" ∷ "" ∷ "no" ∷ []) ≡ 6 ∷ 6 ∷ 6 ∷ 70 ∷ 2 ∷ 2 ∷ 2 ∷ 79 ∷ 79 ∷ 79 ∷ []
barrier_defaults = refl

barriers_or_not : map (λ value. is_barrier_node (tag "barrier" value ∷ [])) ("bollard" ∷ "gate" ∷ "" ∷ "No" ∷ "no" ∷ []) ≡ true ∷ true ∷ true ∷ true ∷ false ∷ []
barriers_or_not = refl

no_barrier_at_all : is_barrier_node (tag "access" "no" ∷ []) ≡ false
no_barrier_at_all = refl

barrier_at_first_place : is_barrier_node (tag "barrier" "no" ∷ tag "barrier" "gate" ∷ []) ≡ false
barrier_at_first_place = refl

no_barrier_with_access : node_modes (tag "access" "no" ∷ tag "foot" "no" ∷ []) ≡ 79
no_barrier_with_access = refl

barrier_no_with_access : node_modes (tag "barrier" "no" ∷ tag "access" "no" ∷ []) ≡ 79
barrier_no_with_access = refl

gate_with_access : node_modes (tag "access" "private" ∷ tag "barrier" "gate" ∷ tag "foot" "yes" ∷ []) ≡ 2
gate_with_access = refl

bollard_with_access : node_modes (tag "barrier" "bollard" ∷ tag "motor_vehicle" "permissive" ∷ tag "access" "yes" ∷ []) ≡ 79
bollard_with_access = refl

bollard_for_buses : node_modes (tag "barrier" "bollard" ∷ tag "bus" "yes" ∷ tag "bicycle" "dismount" ∷ []) ≡ 66
bollard_for_buses = refl

-- names
abbrev names_of_both : String → String → List (List ℕ)
names_of_both name number = road_names (tag "ref" number ∷ tag "name" name ∷ [])

name_then_ref : names_of_both "High Street" "A1" ≡ codes "High Street" ∷ codes "A1" ∷ []
name_then_ref = refl

empty_names : names_of_both "" "" ≡ []
empty_names = refl

empty_name : names_of_both "" "A1" ≡ codes "A1" ∷ []
empty_name = refl

empty_ref : names_of_both "A" "" ≡ codes "A" ∷ []
empty_ref = refl

same_names : names_of_both "A1" "A1" ≡ codes "A1" ∷ []
same_names = refl

no_names : road_names (tag "alt_name" "B" ∷ []) ≡ []
no_names = refl

name_at_first_place : road_names (tag "name" "" ∷ tag "name" "A" ∷ tag "ref" "7" ∷ tag "ref" "8" ∷ []) ≡ codes "7" ∷ []
name_at_first_place = refl
