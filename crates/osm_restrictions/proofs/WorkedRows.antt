-- The definitions, computed on small relations whose answers were read off the tables by hand.
use Prim.Native.String.{String}
use Rattle.std.proofs.Common.{◌≡◌, ℕ, pos, Bool, true, false, List, [], ◌∷◌, ◌++◌, map, refl}
use Rattle.std.specs.Prelude.{codes, Result, Ok, Err, filter_map}
use Rattle.osm_model.specs.declared.tags.Tag.{Tag}
use Rattle.osm_model.specs.declared.relations.Member.{Member}
use Rattle.osm_model.specs.declared.relations.MemberKind.TheVariants as kinds
use Rattle.osm_model.specs.declared.relations.OsmRelation.{OsmRelation}
use Rattle.osm_restrictions.specs.declared.rows.Via.TheVariants as vias
use Rattle.osm_restrictions.specs.declared.rows.TurnRow.{TurnRow}
use Rattle.osm_restrictions.specs.declared.rows.SkipReason.{SkipReason}
use Rattle.osm_restrictions.specs.declared.rows.SkipReason.TheVariants as skips
use Rattle.osm_restrictions.specs.Exceptions.{without_spaces, restricted_modes}
use Rattle.osm_restrictions.specs.Turns.{turn_of}
use Rattle.osm_restrictions.specs.Rows.{row_of, skipped_of}

abbrev tag : String → String → Tag
tag key value = record { key = codes key; value = codes value }

abbrev way_as : String → ℕ → Member
way_as role id = record { role = codes role; kind = kinds.Way; id = pos id }

abbrev node_as : String → ℕ → Member
node_as role id = record { role = codes role; kind = kinds.Node; id = pos id }

abbrev relation_as : String → ℕ → Member
relation_as role id = record { role = codes role; kind = kinds.Relation; id = pos id }

-- a restriction with these tags and members
abbrev restriction : List Tag → List Member → OsmRelation
restriction tags members = record { id = pos 9; tags = tag "type" "restriction" ∷ tags; members = members }

-- from way 1 by node 5 to way 2
abbrev plain_members : List Member
plain_members = way_as "from" 1 ∷ node_as "via" 5 ∷ way_as "to" 2 ∷ []

-- the row of these members
abbrev turn : Bool → Bool → ℕ → TurnRow
turn only u_turn modes =
    record { relation = pos 9; only = only; u_turn = u_turn; from = pos 1 ∷ []; via = vias.Node (pos 5); to = pos 2 ∷ []; modes = modes }

abbrev by_value : String → Result TurnRow SkipReason
by_value value = turn_of (restriction (tag "restriction" value ∷ []) plain_members)

-- the ten values
no_values : map by_value ("no_right_turn" ∷ "no_left_turn" ∷ "no_straight_on" ∷ "no_entry" ∷ "no_exit" ∷ []) ≡ Ok (turn false false 77) ∷ Ok (turn false false 77) ∷ Ok (turn false false 77) ∷ Ok (turn false false 77) ∷ Ok (turn false false 77) ∷ []
no_values = refl

only_values : map by_value ("only_right_turn" ∷ "only_left_turn" ∷ "only_straight_on" ∷ []) ≡ Ok (turn true false 77) ∷ Ok (turn true false 77) ∷ Ok (turn true false 77) ∷ []
only_values = refl

u_turns : map by_value ("no_u_turn" ∷ "only_u_turn" ∷ []) ≡ Ok (turn false true 77) ∷ Ok (turn true true 77) ∷ []
u_turns = refl

other_values : map by_value ("" ∷ "no_turn" ∷ "No_left_turn" ∷ "only_u_turn " ∷ []) ≡ Err skips.UnknownKind ∷ Err skips.UnknownKind ∷ Err skips.UnknownKind ∷ Err skips.UnknownKind ∷ []
other_values = refl

-- the five keys, and the first of them decides, whatever its value
abbrev modes_by : List Tag → ℕ
modes_by tags = restricted_modes tags

five_keys : map (λ key. modes_by (tag key "no_left_turn" ∷ [])) ("restriction" ∷ "restriction:motorcar" ∷ "restriction:hgv" ∷ "restriction:bus" ∷ "restriction:bicycle" ∷ "restriction:foot" ∷ []) ≡ 77 ∷ 1 ∷ 8 ∷ 64 ∷ 4 ∷ 0 ∷ []
five_keys = refl

restriction_before_motorcar : turn_of (restriction (tag "restriction:motorcar" "no_left_turn" ∷ tag "restriction" "only_straight_on" ∷ []) plain_members) ≡ Ok (turn true false 77)
restriction_before_motorcar = refl

motorcar_before_hgv : turn_of (restriction (tag "restriction:hgv" "only_straight_on" ∷ tag "restriction:motorcar" "no_left_turn" ∷ []) plain_members) ≡ Ok (turn false false 1)
motorcar_before_hgv = refl

hgv_before_bus : turn_of (restriction (tag "restriction:bus" "only_straight_on" ∷ tag "restriction:hgv" "no_left_turn" ∷ []) plain_members) ≡ Ok (turn false false 8)
hgv_before_bus = refl

bus_before_bicycle : turn_of (restriction (tag "restriction:bicycle" "only_straight_on" ∷ tag "restriction:bus" "no_left_turn" ∷ []) plain_members) ≡ Ok (turn false false 64)
bus_before_bicycle = refl

unknown_value_decides : turn_of (restriction (tag "restriction" "give_way" ∷ tag "restriction:hgv" "no_left_turn" ∷ []) plain_members) ≡ Err skips.UnknownKind
unknown_value_decides = refl

value_at_first_place : turn_of (restriction (tag "restriction" "no_left_turn" ∷ tag "restriction" "give_way" ∷ []) plain_members) ≡ Ok (turn false false 77)
value_at_first_place = refl

-- conditional keys
abbrev by_key : String → Result TurnRow SkipReason
by_key key = turn_of (restriction (tag key "no_left_turn @ (Mo-Fr)" ∷ []) plain_members)

conditional_keys : map by_key ("restriction:conditional" ∷ "restriction:hgv:conditional" ∷ "restriction:foot:conditional" ∷ []) ≡ Err skips.Conditional ∷ Err skips.Conditional ∷ Err skips.Conditional ∷ []
conditional_keys = refl

no_conditional_keys : map by_key ("restriction:foot" ∷ "conditional" ∷ "restriction:conditional:hgv" ∷ "no_restriction:conditional" ∷ "restriction conditional" ∷ []) ≡ Err skips.UnknownKind ∷ Err skips.UnknownKind ∷ Err skips.UnknownKind ∷ Err skips.UnknownKind ∷ Err skips.UnknownKind ∷ []
no_conditional_keys = refl

decided_beside_condition : turn_of (restriction (tag "restriction:conditional" "no_left_turn @ (Mo-Fr)" ∷ tag "restriction" "no_right_turn" ∷ []) plain_members) ≡ Ok (turn false false 77)
decided_beside_condition = refl

no_key_at_all : turn_of (restriction [] plain_members) ≡ Err skips.UnknownKind
no_key_at_all = refl

-- exceptions
abbrev except : String → ℕ
except value = modes_by (tag "except" value ∷ tag "restriction" "no_left_turn" ∷ [])

excepted_parts : map except ("bicycle" ∷ "bus" ∷ "psv" ∷ "hgv" ∷ "motorcar" ∷ "motor_vehicle" ∷ "foot" ∷ "" ∷ "Bicycle" ∷ []) ≡ 73 ∷ 13 ∷ 13 ∷ 69 ∷ 76 ∷ 4 ∷ 77 ∷ 77 ∷ 77 ∷ []
excepted_parts = refl

several_parts : map except ("bus;bicycle" ∷ "psv; bicycle ;hgv" ∷ ";;hgv;" ∷ "taxi;bus;taxi" ∷ "bus,bicycle" ∷ "bi cycle;  bus" ∷ "motor_vehicle;bicycle" ∷ []) ≡ 9 ∷ 1 ∷ 69 ∷ 13 ∷ 77 ∷ 13 ∷ 0 ∷ []
several_parts = refl

spaces_alone : map without_spaces (codes "  a b  " ∷ codes "   " ∷ codes "" ∷ codes "a" ∷ []) ≡ codes "a b" ∷ [] ∷ [] ∷ codes "a" ∷ []
spaces_alone = refl

excepted_of_one_mode : map (λ value. modes_by (tag "restriction:hgv" "no_left_turn" ∷ tag "except" value ∷ [])) ("bus" ∷ "hgv" ∷ "motor_vehicle" ∷ []) ≡ 8 ∷ 0 ∷ 0 ∷ []
excepted_of_one_mode = refl

all_vehicles_excepted : turn_of (restriction (tag "restriction" "no_left_turn" ∷ tag "except" "motor_vehicle;bicycle" ∷ []) plain_members) ≡ Err skips.NoModes
all_vehicles_excepted = refl

-- members
abbrev by_members : String → List Member → Result TurnRow SkipReason
by_members value members = turn_of (restriction (tag "restriction" value ∷ []) members)

no_from : by_members "no_left_turn" (node_as "via" 5 ∷ way_as "to" 2 ∷ []) ≡ Err skips.WrongFrom
no_from = refl

two_from : map (λ value. by_members value (way_as "from" 1 ∷ way_as "from" 3 ∷ node_as "via" 5 ∷ way_as "to" 2 ∷ [])) ("no_left_turn" ∷ "no_exit" ∷ "only_straight_on" ∷ []) ≡ Err skips.WrongFrom ∷ Err skips.WrongFrom ∷ Err skips.WrongFrom ∷ []
two_from = refl

two_from_of_no_entry : by_members "no_entry" (way_as "from" 3 ∷ way_as "from" 1 ∷ node_as "via" 5 ∷ way_as "to" 2 ∷ []) ≡ Ok (record { relation = pos 9; only = false; u_turn = false; from = pos 3 ∷ pos 1 ∷ []; via = vias.Node (pos 5); to = pos 2 ∷ []; modes = 77 })
two_from_of_no_entry = refl

no_from_of_no_entry : by_members "no_entry" (node_as "via" 5 ∷ way_as "to" 2 ∷ []) ≡ Err skips.WrongFrom
no_from_of_no_entry = refl

no_to : by_members "no_left_turn" (way_as "from" 1 ∷ node_as "via" 5 ∷ []) ≡ Err skips.WrongTo
no_to = refl

two_to : map (λ value. by_members value (way_as "from" 1 ∷ node_as "via" 5 ∷ way_as "to" 2 ∷ way_as "to" 3 ∷ [])) ("no_left_turn" ∷ "no_entry" ∷ "only_straight_on" ∷ []) ≡ Err skips.WrongTo ∷ Err skips.WrongTo ∷ Err skips.WrongTo ∷ []
two_to = refl

two_to_of_no_exit : by_members "no_exit" (way_as "from" 1 ∷ node_as "via" 5 ∷ way_as "to" 2 ∷ way_as "to" 3 ∷ []) ≡ Ok (record { relation = pos 9; only = false; u_turn = false; from = pos 1 ∷ []; via = vias.Node (pos 5); to = pos 2 ∷ pos 3 ∷ []; modes = 77 })
two_to_of_no_exit = refl

no_to_of_no_exit : by_members "no_exit" (way_as "from" 1 ∷ node_as "via" 5 ∷ []) ≡ Err skips.WrongTo
no_to_of_no_exit = refl

others_passed_over : by_members "no_left_turn" (node_as "from" 7 ∷ way_as "from" 1 ∷ way_as "location_hint" 8 ∷ way_as "" 8 ∷ node_as "via" 5 ∷ relation_as "to" 7 ∷ way_as "to" 2 ∷ node_as "to" 7 ∷ []) ≡ Ok (turn false false 77)
others_passed_over = refl

-- via: one node, or ways
abbrev by_via : List Member → Result TurnRow SkipReason
by_via members = by_members "no_left_turn" (way_as "from" 1 ∷ members ++ way_as "to" 2 ∷ [])

via_ways : by_via (way_as "via" 6 ∷ way_as "via" 4 ∷ []) ≡ Ok (record { relation = pos 9; only = false; u_turn = false; from = pos 1 ∷ []; via = vias.Ways (pos 6 ∷ pos 4 ∷ []); to = pos 2 ∷ []; modes = 77 })
via_ways = refl

via_one_way : by_via (way_as "via" 6 ∷ []) ≡ Ok (record { relation = pos 9; only = false; u_turn = false; from = pos 1 ∷ []; via = vias.Ways (pos 6 ∷ []); to = pos 2 ∷ []; modes = 77 })
via_one_way = refl

bad_vias : map by_via ([] ∷ (node_as "via" 5 ∷ node_as "via" 6 ∷ []) ∷ (node_as "via" 5 ∷ way_as "via" 6 ∷ []) ∷ (way_as "via" 6 ∷ relation_as "via" 7 ∷ []) ∷ (relation_as "via" 7 ∷ []) ∷ (node_as "via" 5 ∷ relation_as "via" 7 ∷ []) ∷ []) ≡ Err skips.BadVia ∷ Err skips.BadVia ∷ Err skips.BadVia ∷ Err skips.BadVia ∷ Err skips.BadVia ∷ Err skips.BadVia ∷ []
bad_vias = refl

-- the order of the reasons, two at a time: the tags of the earlier, with the members or tags of the later
conditional_first : turn_of (restriction (tag "restriction:conditional" "x" ∷ tag "except" "motor_vehicle;bicycle" ∷ []) []) ≡ Err skips.Conditional
conditional_first = refl

unknown_before_no_modes : turn_of (restriction (tag "restriction" "give_way" ∷ tag "except" "motor_vehicle;bicycle" ∷ []) plain_members) ≡ Err skips.UnknownKind
unknown_before_no_modes = refl

unknown_before_members : by_members "give_way" [] ≡ Err skips.UnknownKind
unknown_before_members = refl

no_modes_before_members : map (λ members. turn_of (restriction (tag "restriction:bus" "no_left_turn" ∷ tag "except" "psv" ∷ []) members)) ((node_as "via" 5 ∷ way_as "to" 2 ∷ []) ∷ (way_as "from" 1 ∷ node_as "via" 5 ∷ []) ∷ (way_as "from" 1 ∷ way_as "to" 2 ∷ []) ∷ []) ≡ Err skips.NoModes ∷ Err skips.NoModes ∷ Err skips.NoModes ∷ []
no_modes_before_members = refl

from_before_to_and_via : map (by_members "no_left_turn") ((node_as "via" 5 ∷ []) ∷ (way_as "to" 2 ∷ []) ∷ []) ≡ Err skips.WrongFrom ∷ Err skips.WrongFrom ∷ []
from_before_to_and_via = refl

to_before_via : by_members "no_left_turn" (way_as "from" 1 ∷ []) ≡ Err skips.WrongTo
to_before_via = refl

-- other relations say nothing
abbrev numbered : ℕ → List Tag → List Member → OsmRelation
numbered id tags members = record { id = pos id; tags = tags; members = members }

abbrev some_relations : List OsmRelation
some_relations =
    numbered 1 (tag "type" "route" ∷ tag "restriction" "no_left_turn" ∷ []) plain_members
    ∷ numbered 2 (tag "type" "restriction" ∷ tag "restriction" "no_left_turn" ∷ []) plain_members
    ∷ numbered 3 (tag "type" "restriction" ∷ []) plain_members
    ∷ numbered 4 (tag "restriction" "no_left_turn" ∷ []) plain_members
    ∷ numbered 5 (tag "type" "restriction" ∷ tag "restriction:hgv" "no_exit" ∷ []) plain_members
    ∷ []

rows_among_relations : map (λ (row : TurnRow). row.relation) (filter_map row_of some_relations) ≡ pos 2 ∷ pos 5 ∷ []
rows_among_relations = refl

skips_among_relations : filter_map skipped_of some_relations ≡ record { relation = pos 3; reason = skips.UnknownKind } ∷ []
skips_among_relations = refl
