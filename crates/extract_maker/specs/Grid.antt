-- The extract of a grid of roads: its side and a seed say all of it. The grid has so many rows and columns of nodes as
-- its side says; each row and each column is a way, and on some nodes of the diagonal a turn restriction is drawn.
use Rattle.std.specs.Prelude.{ℕ, zero, suc, ◌+◌, ◌*◌, ◌/◌, ◌%◌, ◌^◌, ◌==◌, pos, if◌then◌else◌, List, [], ◌∷◌, ◌++◌, map, Option, Some, None, codes}
use Rattle.std.specs.List.{range_with_len, flat_map}
use Rattle.std.specs.Fmt.{decimal}
use Rattle.osm_model.specs.declared.tags.Tag.{Tag}
use Rattle.osm_model.specs.declared.nodes.OsmNode.{OsmNode}
use Rattle.osm_model.specs.declared.ways.OsmWay.{OsmWay}
use Rattle.osm_model.specs.declared.relations.Member.{Member}
use Rattle.osm_model.specs.declared.relations.MemberKind.TheVariants as members
use Rattle.osm_model.specs.declared.relations.OsmRelation.{OsmRelation}
use Rattle.osm_objects.specs.Objects.{Objects}

-- 0, 1, 2 and so on, so many numbers
abbrev pub counted : ℕ → List ℕ
counted many = range_with_len 0 many

abbrev pub tag_with : List ℕ → List ℕ → Tag
tag_with key value = record { key = key; value = value }

-- ---- nodes

-- the nodes are numbered from 1 on, row by row
abbrev pub grid_node_id : ℕ → ℕ → ℕ → ℕ
grid_node_id side row column = row * side + column + 1

-- Rows lie 10,000 units of 1e-7 degree apart, and so do columns. No node has tags.
abbrev pub grid_node : ℕ → ℕ → ℕ → OsmNode
grid_node side row column = record {
  id = pos (grid_node_id side row column);
  lat = pos (row * 10_000);
  lon = pos (column * 10_000);
  tags = [];
}

abbrev pub node_row : ℕ → ℕ → List OsmNode
node_row side row = map (grid_node side row) (counted side)

-- ---- ways

abbrev pub row_way_id : ℕ → ℕ
row_way_id row = 1_000_000 + row

abbrev pub column_way_id : ℕ → ℕ
column_way_id column = 2_000_000 + column

-- each eighth row is primary, each other fourth one secondary
abbrev pub row_class : ℕ → List ℕ
row_class row =
    if row % 8 == 0 then codes "primary"
    else (if row % 4 == 0 then codes "secondary"
    else codes "residential")

-- each sixteenth column is a trunk road
abbrev pub column_class : ℕ → List ℕ
column_class column = if column % 16 == 0 then codes "trunk" else codes "unclassified"

-- a road's class, and its name: `R` or `C` and its number
abbrev pub road_tags : List ℕ → List ℕ → ℕ → List Tag
road_tags class letter number = tag_with (codes "highway") class ∷ tag_with (codes "name") (letter ++ decimal number) ∷ []

abbrev pub row_way : ℕ → ℕ → OsmWay
row_way side row = record {
  id = pos (row_way_id row);
  tags = road_tags (row_class row) (codes "R") row;
  refs = map (λ column. pos (grid_node_id side row column)) (counted side);
}

abbrev pub column_way : ℕ → ℕ → OsmWay
column_way side column = record {
  id = pos (column_way_id column);
  tags = road_tags (column_class column) (codes "C") column;
  refs = map (λ row. pos (grid_node_id side row column)) (counted side);
}

-- ---- turn restrictions

-- the state behind a state, and what is drawn from a state: a linear congruential generator
abbrev pub next_state : ℕ → ℕ
next_state state = (state * 1_103_515_245 + 12_345) % 2 ^ 31

abbrev pub drawn_from : ℕ → ℕ
drawn_from state = state / 65_536

-- so many draws, where the seed is the state before the first of them
abbrev pub draws : ℕ → ℕ → List ℕ
draws zero state = []
draws (suc many) state = drawn_from (next_state state) ∷ draws many (next_state state)

-- what a draw means: no restriction, or one of this kind
abbrev pub turn_kind : ℕ → Option (List ℕ)
turn_kind draw =
    if draw % 3 == 0 then None
    else (if draw % 3 == 1 then Some (codes "no_left_turn")
    else Some (codes "only_right_turn"))

abbrev pub turn_id : ℕ → ℕ
turn_id place = 3_000_000 + place

-- from the row with this place onto the column with this place, at their node
abbrev pub grid_turn : ℕ → ℕ → List ℕ → OsmRelation
grid_turn side place kind = record {
  id = pos (turn_id place);
  tags = tag_with (codes "type") (codes "restriction") ∷ tag_with (codes "restriction") kind ∷ [];
  members =
      record { role = codes "from"; kind = members.Way; id = pos (row_way_id place) }
      ∷ record { role = codes "via"; kind = members.Node; id = pos (grid_node_id side place place) }
      ∷ record { role = codes "to"; kind = members.Way; id = pos (column_way_id place) }
      ∷ [];
}

abbrev pub turn_at : ℕ → ℕ → Option (List ℕ) → List OsmRelation
turn_at side place None = []
turn_at side place (Some kind) = grid_turn side place kind ∷ []

-- what these draws give, where the first of them is that of this place
abbrev pub turns_from : ℕ → ℕ → List ℕ → List OsmRelation
turns_from side place [] = []
turns_from side place (draw ∷ others) = turn_at side place (turn_kind draw) ++ turns_from side (place + 1) others

-- ---- the grid

abbrev pub grid_nodes : ℕ → List OsmNode
grid_nodes side = flat_map (node_row side) (counted side)

abbrev pub grid_ways : ℕ → List OsmWay
grid_ways side = map (row_way side) (counted side) ++ map (column_way side) (counted side)

abbrev pub grid_turns : ℕ → ℕ → List OsmRelation
grid_turns side seed = turns_from side 0 (draws side seed)

-- the lists of the grid with this side and this seed
unfoldable pub grid : ℕ → ℕ → Objects
grid side seed = record { nodes = grid_nodes side; ways = grid_ways side; relations = grid_turns side seed }
