-- What tags say of roads, by the tables of `way_tags` and of nothing else. The words that the tables decide are closed:
-- what stands on them knows no more of them than their names, but for `proofs/Fits.antt`, `proofs/Barriers.antt`,
-- `proofs/PlainRoads.antt` and rows that are worked out.
use Rattle.std.specs.Prelude.{ℕ, ℤ, Bool, true, false, List, [], find, is_some, unwrap_or, bit_or, if◌then◌else◌}
use Rattle.std.specs.Option.{option_map_or}
use Rattle.std.specs.Ordering.{int_eq}
use Rattle.osm_model.specs.declared.tags.Tag.{Tag}
use Rattle.osm_model.specs.declared.extract.Extract.{Extract}
use Rattle.way_tags.specs.declared.directions.Dir.TheVariants as dirs
use Rattle.way_tags.specs.Ways.{road_class, road_access}
use Rattle.way_tags.specs.Nodes.{is_barrier_node, node_modes}
use Rattle.way_tags.specs.Names.{road_names}
use Rattle.road_pieces.specs.Modes.{ShareMode}

-- a way is part of the roads: it has a class
unfoldable pub is_routable : List Tag → Bool
is_routable tags = is_some (road_class tags)

-- a node is a barrier
unfoldable pub is_barrier : List Tag → Bool
is_barrier tags = is_barrier_node tags

-- the class of a routable way, from 0, motorway, to 7; a way that isn't routable has no piece, and which number stands
-- for it here doesn't matter
unfoldable pub class_of : List Tag → ℕ
class_of tags = unwrap_or (road_class tags) 7

-- the modes that may use a way forward and backward, and pass a node
unfoldable pub forward_access : List Tag → ℕ
forward_access tags = road_access tags dirs.Forward

unfoldable pub backward_access : List Tag → ℕ
backward_access tags = road_access tags dirs.Backward

unfoldable pub node_access : List Tag → ℕ
node_access tags = node_modes tags

-- the names of a way
unfoldable pub names_of : List Tag → List (List ℕ)
names_of tags = road_names tags

-- the tags of the way, and of the node, with that id
abbrev pub way_tags : Extract → ℤ → List Tag
way_tags x id = option_map_or (λ way. way.tags) (find (λ way. int_eq way.id id) x.ways) []

abbrev pub node_tags : Extract → ℤ → List Tag
node_tags x id = option_map_or (λ node. node.tags) (find (λ node. int_eq node.id id) x.nodes) []

-- the modes that may use a way in a direction
abbrev pub way_access : Extract → ℤ → Bool → ℕ
way_access x way forward = if forward then forward_access (way_tags x way) else backward_access (way_tags x way)

-- a way is open to one of the asked modes in some direction
abbrev pub Keeps : Extract → ℕ → ℤ → Type 0
Keeps x asked way = ShareMode (bit_or (way_access x way true) (way_access x way false)) asked

-- a mode may use a way in a direction
abbrev pub Uses : Extract → ℕ → ℤ → Bool → Type 0
Uses x mode way forward = ShareMode (way_access x way forward) mode

-- a mode may pass a node
abbrev pub Passes : Extract → ℕ → ℤ → Type 0
Passes x mode node = ShareMode (node_access (node_tags x node)) mode
