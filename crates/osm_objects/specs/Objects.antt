-- What the objects of a PrimitiveBlock mean, or the first fault among them.
use Rattle.std.specs.Prelude.{ℕ, List, [], ◌∷◌, ◌++◌, All, Option, Some, None, Result, Ok, Err}
use Rattle.osm_messages.specs.declared.fault.MessageFault.{MessageFault}
use Rattle.osm_messages.specs.declared.kind.ObjectKind.{ObjectKind}
use Rattle.osm_messages.specs.declared.kind.ObjectKind.TheVariants as kinds
use Rattle.osm_messages.specs.Numbers.{shape_of, numbers_in}
use Rattle.osm_messages.specs.Groups.{Object, HasNumbers}
use Rattle.osm_messages.specs.Blocks.{Block}
use Rattle.osm_messages.specs.declared.fields.TheConstants.{BLOCK_STRINGTABLE}
use Rattle.osm_messages.specs.Lists.{Lists, number_lists, listed_numbers}
use Rattle.osm_messages.specs.RawNumbers.{node_numbers, dense_numbers, way_numbers, relation_numbers}
use Rattle.osm_model.specs.declared.nodes.OsmNode.{OsmNode}
use Rattle.osm_model.specs.declared.ways.OsmWay.{OsmWay}
use Rattle.osm_model.specs.declared.relations.OsmRelation.{OsmRelation}
use Rattle.osm_objects.specs.declared.fault.ObjectFault.{ObjectFault}
use Rattle.osm_objects.specs.declared.fault.ObjectFault.TheVariants as faults
use Rattle.osm_objects.specs.declared.scale.Scale.{Scale}
use Rattle.osm_objects.specs.Steps.{◌>>=◌}
use Rattle.osm_objects.specs.Nodes.{decoded_node, decoded_dense_nodes}
use Rattle.osm_objects.specs.Ways.{decoded_way}
use Rattle.osm_objects.specs.Relations.{decoded_relation}

-- ---- objects

-- nodes, ways and relations, each in the order of the bytes
pub record Objects : Type 0 where
  pub nodes : List OsmNode
  pub ways : List OsmWay
  pub relations : List OsmRelation

abbrev pub no_objects : Objects
no_objects = record { nodes = []; ways = []; relations = [] }

abbrev pub just_nodes : List OsmNode → Objects
just_nodes nodes = record no_objects { nodes = nodes }

abbrev pub just_ways : List OsmWay → Objects
just_ways ways = record no_objects { ways = ways }

abbrev pub just_relations : List OsmRelation → Objects
just_relations relations = record no_objects { relations = relations }

-- these behind those
abbrev pub joined : Objects → Objects → Objects
joined before more = record {
  nodes = before.nodes ++ more.nodes;
  ways = before.ways ++ more.ways;
  relations = before.relations ++ more.relations;
}

abbrev pub joined_behind : Objects → Result Objects ObjectFault → Result Objects ObjectFault
joined_behind before given = given >>= λ more. Ok (joined before more)

-- ---- one object

abbrev pub spelled : Result Lists MessageFault → Lists
spelled (Ok lists) = lists
spelled (Err fault) = number_lists []

-- the numbers of an object, list by list; each object of a block spells them
unfoldable pub lists_in : Object → Lists
lists_in object = spelled (listed_numbers (numbers_in (shape_of object.kind) object.at object.bytes))

-- what the numbers of an object of a kind mean
abbrev pub meaning_of : ObjectKind → List (List ℕ) → Scale → ℕ → Lists → Result Objects ObjectFault
meaning_of kinds.Node table scale at lists = decoded_node table scale at (node_numbers lists) >>= λ node. Ok (just_nodes (node ∷ []))
meaning_of kinds.DenseNodes table scale at lists = decoded_dense_nodes table scale at (dense_numbers lists) >>= λ nodes. Ok (just_nodes nodes)
meaning_of kinds.Way table scale at lists = decoded_way table at (way_numbers lists) >>= λ way. Ok (just_ways (way ∷ []))
meaning_of kinds.Relation table scale at lists = decoded_relation table at (relation_numbers lists) >>= λ relation. Ok (just_relations (relation ∷ []))

-- one object more
abbrev pub with_object : List (List ℕ) → Scale → Objects → Object → Result Objects ObjectFault
with_object table scale before object = joined_behind before (meaning_of object.kind table scale object.at (lists_in object))

-- ---- the objects of a block

abbrev pub with_objects : List (List ℕ) → Scale → Objects → List Object → Result Objects ObjectFault
with_objects table scale before [] = Ok before
with_objects table scale before (object ∷ objects) = do
  now ← with_object table scale before object
  with_objects table scale now objects

abbrev pub scale_of : Block → Scale
scale_of block = record { granularity = block.granularity; lat_offset = block.lat_offset; lon_offset = block.lon_offset }

-- the string table, which a block has to have
abbrev pub table_of : ℕ → Option (List (List ℕ)) → Result (List (List ℕ)) ObjectFault
table_of at None = Err (faults.MissingField at BLOCK_STRINGTABLE)
table_of at (Some table) = Ok table

-- the objects of a PrimitiveBlock whose first byte stands at this offset
unfoldable pub objects_of : ℕ → Block → Result Objects ObjectFault
objects_of at block = do
  table ← table_of at block.texts
  with_objects table (scale_of block) no_objects block.objects

-- ---- what is known of a block that was read

-- the numbers of each object are spelled
abbrev pub Spelled : Block → Type 0
Spelled block = All HasNumbers block.objects
