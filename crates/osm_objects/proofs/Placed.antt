-- Each node that a block gives is at a place on the earth.
use Rattle.std.proofs.Common.{◌≡◌, ℕ, ℤ, List, [], ◌∷◌, Result, Ok, arith, All, IfOk}
use Rattle.std.proofs.lemmas.Int.{ints}
use Rattle.std.proofs.lemmas.Result.{IfOk-at_ok}
use Rattle.std.proofs.lemmas.List.Elements.{All-nil, All-cons, All-append}
use Rattle.osm_messages.specs.declared.kind.ObjectKind.{ObjectKind}
use Rattle.osm_messages.specs.declared.kind.ObjectKind.TheVariants as kinds
use Rattle.osm_messages.specs.Groups.{Object}
use Rattle.osm_messages.specs.Blocks.{Block}
use Rattle.osm_messages.specs.Lists.{Lists}
use Rattle.osm_messages.specs.RawNumbers.{NodeNumbers, DenseNumbers}
use Rattle.osm_model.specs.declared.tags.Tag.{Tag}
use Rattle.osm_model.specs.OsmNode.{IsPlaced}
use Rattle.osm_objects.specs.declared.fault.ObjectFault.{ObjectFault}
use Rattle.osm_objects.specs.declared.scale.Scale.{Scale}
use Rattle.osm_objects.specs.Coordinates.{node_at}
use Rattle.osm_objects.specs.Nodes.{decoded_node, nodes_at, grouped_nodes, decoded_dense_nodes}
use Rattle.osm_objects.specs.Objects.{Objects, joined_behind, meaning_of, with_objects, objects_of}
use Rattle.osm_objects.proofs.Results.{bind_any, bind_known}

-- ---- nodes

node_at-placed : (scale : Scale) (id lat lon : ℤ) (tags : List Tag) → IfOk (node_at scale id lat lon tags) IsPlaced
unfolding node_at
node_at-placed scale id lat lon tags = grind (arith, ints)

decoded_node-placed : (table : List (List ℕ)) (scale : Scale) (at : ℕ) (raw : NodeNumbers) → IfOk (decoded_node table scale at raw) IsPlaced
unfolding decoded_node
decoded_node-placed table scale at raw = search (bind_any, node_at-placed) depth 8

nodes_at-placed : (scale : Scale) (ids lats lons : List ℤ) (tag_lists : List (List Tag)) → IfOk (nodes_at scale ids lats lons tag_lists) (All IsPlaced)
nodes_at-placed scale (id ∷ ids) (lat ∷ lats) (lon ∷ lons) (tags ∷ tag_lists) =
    search (bind_known IsPlaced (All IsPlaced), bind_known (All IsPlaced) (All IsPlaced), node_at-placed, nodes_at-placed scale ids lats lons tag_lists, All-cons IsPlaced)
nodes_at-placed scale _ _ _ _ = All-nil IsPlaced

decoded_dense_nodes-placed : (table : List (List ℕ)) (scale : Scale) (at : ℕ) (raw : DenseNumbers) → IfOk (decoded_dense_nodes table scale at raw) (All IsPlaced)
unfolding decoded_dense_nodes grouped_nodes
decoded_dense_nodes-placed table scale at raw = search (bind_any, nodes_at-placed) depth 9

-- ---- objects

abbrev HasPlaced : Objects → Type 0
HasPlaced objects = All IsPlaced objects.nodes

meaning_of-placed : (kind : ObjectKind) (table : List (List ℕ)) (scale : Scale) (at : ℕ) (lists : Lists) → IfOk (meaning_of kind table scale at lists) HasPlaced
meaning_of-placed kinds.Node table scale at lists = search (bind_known IsPlaced HasPlaced, decoded_node-placed, All-cons IsPlaced, All-nil IsPlaced)
meaning_of-placed kinds.DenseNodes table scale at lists = search (bind_known (All IsPlaced) HasPlaced, decoded_dense_nodes-placed)
meaning_of-placed kinds.Way table scale at lists = search (bind_any, All-nil IsPlaced)
meaning_of-placed kinds.Relation table scale at lists = search (bind_any, All-nil IsPlaced)

behind-placed : (before : Objects) (given : Result Objects ObjectFault) → HasPlaced before → IfOk given HasPlaced → IfOk (joined_behind before given) HasPlaced
behind-placed before given placed more = search (bind_known HasPlaced HasPlaced, All-append IsPlaced)

with_objects-placed : (table : List (List ℕ)) (scale : Scale) (objects : List Object) (before : Objects) → HasPlaced before → IfOk (with_objects table scale before objects) HasPlaced
with_objects-placed table scale [] before placed = placed
with_objects-placed table scale (object ∷ objects) before placed =
    search (bind_known HasPlaced HasPlaced, behind-placed, meaning_of-placed, with_objects-placed table scale objects)

objects_of-placed : (at : ℕ) (block : Block) → IfOk (objects_of at block) HasPlaced
unfolding objects_of
objects_of-placed at block = search (bind_any, with_objects-placed, All-nil IsPlaced)

-- behind nodes that are placed
pub all_placed : (before now : Objects) (at : ℕ) (block : Block) → All IsPlaced before.nodes → joined_behind before (objects_of at block) ≡ Ok now → All IsPlaced now.nodes
all_placed before now at block placed e = IfOk-at_ok HasPlaced e (behind-placed before (objects_of at block) placed (objects_of-placed at block))
