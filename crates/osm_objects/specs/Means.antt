-- What the objects of a PrimitiveBlock mean, in the words of the format (osmformat.proto): one relation for each message.
-- Read this first, and then Causes, which says which faults stand in objects that have no meaning. Neither names a step
-- or an order of work. Nodes, Ways, Relations and Objects compute both, step by step.
use Rattle.std.specs.Prelude.{FitsSigned, ◌≡◌, ◌≢◌, ◌⊎◌, ℕ, ◌+◌, ◌<◌, ◌==◌, ℤ, pos, neg_ℤ, ◌+ℤ◌, ◌*ℤ◌, ◌≤ℤ◌, ◌<ℤ◌, List, [], ◌∷◌, ◌++◌, map, length, take, Some, codes, slice_get}
use Rattle.std.specs.Int.{w64, cast_signed}
use Rattle.std.specs.List.{filter, flat_map, AllByRecursion, AllZip}
use Rattle.std.specs.Str.{IsUtf8}
use Rattle.wire_read.specs.ZigZag.{unzigzag_of}
use Rattle.osm_messages.specs.declared.kind.ObjectKind.{ObjectKind}
use Rattle.osm_messages.specs.declared.kind.ObjectKind.TheVariants as kinds
use Rattle.osm_messages.specs.declared.fields.TheConstants.{NODE_ID, NODE_KEYS, NODE_VALS, NODE_LAT, NODE_LON, DENSE_ID, DENSE_LAT, DENSE_LON, DENSE_KEYS_VALS, WAY_ID, WAY_KEYS, WAY_VALS, WAY_REFS, RELATION_ID, RELATION_KEYS, RELATION_VALS, RELATION_ROLES_SID, RELATION_MEMIDS, RELATION_TYPES}
use Rattle.osm_messages.specs.Groups.{Object}
use Rattle.osm_messages.specs.Blocks.{Block}
use Rattle.osm_messages.specs.Means.{Together, IsObject}
use Rattle.osm_model.specs.declared.tags.Tag.{Tag}
use Rattle.osm_model.specs.declared.nodes.OsmNode.{OsmNode}
use Rattle.osm_model.specs.declared.ways.OsmWay.{OsmWay}
use Rattle.osm_model.specs.declared.relations.Member.{Member}
use Rattle.osm_model.specs.declared.relations.MemberKind.{MemberKind}
use Rattle.osm_model.specs.declared.relations.MemberKind.TheVariants as members
use Rattle.osm_model.specs.declared.relations.OsmRelation.{OsmRelation}
use Rattle.osm_objects.specs.declared.scale.Scale.{Scale}
use Rattle.osm_objects.specs.Objects.{Objects, no_objects, just_nodes, just_ways, just_relations, joined}

-- ---- the numbers of fields

-- the numbers of each field of an object, in the order of the bytes
abbrev pub HeldNumbers : Type 0
HeldNumbers = ℕ → List ℕ

abbrev pub held_by : List (ℕ × ℕ) → HeldNumbers
held_by numbers field = map (λ (pair : ℕ × ℕ). pair.1) (filter (λ (pair : ℕ × ℕ). pair.0 == field) numbers)

-- the last number of a field, which is the one that counts
abbrev pub IsLastOf : List ℕ → ℕ → Type 0
IsLastOf numbers n = (front : List ℕ) × (numbers ≡ front ++ n ∷ [])

-- something holds of one of the list
abbrev pub HoldsOfOne : {A : Type 0} → (A → Type 0) → List A → Type 0
HoldsOfOne P [] = ⊥
HoldsOfOne P (x ∷ xs) = P x ⊎ HoldsOfOne P xs

-- ---- differences

-- the sum of these differences, each written by zigzag
abbrev pub summed : List ℕ → ℤ
summed [] = pos 0
summed (n ∷ ns) = unzigzag_of n +ℤ summed ns

-- the number with this index: the sum of the differences up to its own
abbrev pub sum_at : ℕ → List ℕ → ℤ
sum_at i differences = summed (take (i + 1) differences)

-- the numbers that the differences spell; each is a signed number of 64 bits
pub record AreSums (differences : List ℕ) (sums : List ℤ) : Type 0 where
  pub many : length sums ≡ length differences
  pub each : (i : ℕ) → i < length differences → slice_get sums i ≡ Some (sum_at i differences)
  pub fit : (i : ℕ) → i < length differences → FitsSigned w64 (sum_at i differences)

-- ---- texts

-- the string table has this text at this index
abbrev pub HasTextAt : List (List ℕ) → ℕ → List ℕ → Type 0
HasTextAt table index text = slice_get table index ≡ Some text

-- the text at this index, which is UTF-8
pub record IsUtf8Text (table : List (List ℕ)) (index : ℕ) (text : List ℕ) : Type 0 where
  pub found : HasTextAt table index text
  pub utf8 : IsUtf8 text

-- ---- tags

-- the keys whose tags are kept
abbrev pub kept_keys : List (List ℕ)
kept_keys =
    codes "highway" ∷ codes "area" ∷ codes "oneway" ∷ codes "oneway:bicycle" ∷ codes "oneway:bus" ∷ codes "oneway:psv" ∷ codes "junction" ∷ codes "name" ∷ codes "ref"
    ∷ codes "access" ∷ codes "vehicle" ∷ codes "motor_vehicle" ∷ codes "motorcar" ∷ codes "hgv" ∷ codes "psv" ∷ codes "bus" ∷ codes "bicycle" ∷ codes "foot" ∷ codes "barrier"
    ∷ codes "type" ∷ codes "except" ∷ codes "restriction" ∷ []

-- one of these keys, or one that begins with `restriction:`
abbrev pub IsKept : List ℕ → Type 0
IsKept key = HoldsOfOne (λ (kept : List ℕ). key ≡ kept) kept_keys ⊎ ((rest : List ℕ) × (key ≡ codes "restriction:" ++ rest))

-- a tag with a kept key is kept, and is UTF-8; another is dropped
abbrev pub IsTagOf : List ℕ → List ℕ → List Tag → Type 0
IsTagOf key value given =
    (IsKept key × IsUtf8 key × IsUtf8 value × (given ≡ record { key = key; value = value } ∷ []))
    ⊎ ((IsKept key → ⊥) × (given ≡ []))

-- what the indexes of a key and of a value give
pub record GivesTag (table : List (List ℕ)) (pair : ℕ × ℕ) (given : List Tag) : Type 0 where
  pub key : List ℕ
  pub value : List ℕ
  pub has_key : HasTextAt table pair.0 key
  pub has_value : HasTextAt table pair.1 value
  pub is : IsTagOf key value given

-- the kept tags of these pairs, in order
abbrev pub AreKeptTags : List (List ℕ) → List (ℕ × ℕ) → List Tag → Type 0
AreKeptTags table pairs tags = Together (GivesTag table) pairs tags

-- the pairs of the two lists: each key with its value
pub record ArePairs (keys values : List ℕ) (pairs : List (ℕ × ℕ)) : Type 0 where
  pub keys_are : keys ≡ map (λ (pair : ℕ × ℕ). pair.0) pairs
  pub values_are : values ≡ map (λ (pair : ℕ × ℕ). pair.1) pairs

-- ---- keys and values of a DenseNodes

-- a group as it is written: the key and the value of each pair, and a 0 that closes it
abbrev pub written : List (ℕ × ℕ) → List ℕ
written group = flat_map (λ (pair : ℕ × ℕ). pair.0 ∷ pair.1 ∷ []) group ++ 0 ∷ []

-- no key has index 0
abbrev pub HasKeys : List (ℕ × ℕ) → Type 0
HasKeys group = AllByRecursion (λ (pair : ℕ × ℕ). pair.0 ≢ 0) group

-- the groups, one after the other
pub record AreWritten (numbers : List ℕ) (groups : List (List (ℕ × ℕ))) : Type 0 where
  pub numbers_are : numbers ≡ flat_map written groups
  pub have_keys : AllByRecursion HasKeys groups

-- the groups; or no number is written, and each group is empty
abbrev pub AreGroups : List ℕ → List (List (ℕ × ℕ)) → Type 0
AreGroups numbers groups = AreWritten numbers groups ⊎ ((numbers ≡ []) × AllByRecursion (λ (group : List (ℕ × ℕ)). group ≡ []) groups)

-- ---- places

-- in units of 1e-7 degree, rounded down
pub record IsRoundedDown (nano units : ℤ) : Type 0 where
  pub down : (pos 100 *ℤ units) ≤ℤ nano
  pub nearest : nano <ℤ (pos 100 *ℤ (units +ℤ pos 1))

-- latitudes from -90 to 90 degrees, longitudes from -180 to 180
pub record IsOnEarth (lat lon : ℤ) : Type 0 where
  pub from_south : neg_ℤ (pos 900_000_000) ≤ℤ lat
  pub to_north : lat ≤ℤ pos 900_000_000
  pub from_west : neg_ℤ (pos 1_800_000_000) ≤ℤ lon
  pub to_east : lon ≤ℤ pos 1_800_000_000

-- these are the units of a place, given in 1e-9 degree
pub record IsPlaceAt (lat_nano lon_nano lat lon : ℤ) : Type 0 where
  pub lat_is : IsRoundedDown lat_nano lat
  pub lon_is : IsRoundedDown lon_nano lon

-- in 1e-9 degree, by the block's granularity and offsets
abbrev pub lat_nano : Scale → ℤ → ℤ
lat_nano scale number = scale.lat_offset +ℤ (scale.granularity *ℤ number)

abbrev pub lon_nano : Scale → ℤ → ℤ
lon_nano scale number = scale.lon_offset +ℤ (scale.granularity *ℤ number)

-- the node at the place of these numbers
pub record IsNodeAt (scale : Scale) (id lat lon : ℤ) (node : OsmNode) : Type 0 where
  pub id_is : node.id ≡ id
  pub place : IsPlaceAt (lat_nano scale lat) (lon_nano scale lon) node.lat node.lon
  pub on_earth : IsOnEarth node.lat node.lon

-- ---- objects

-- a node
pub record MeansNode (table : List (List ℕ)) (scale : Scale) (held : HeldNumbers) (node : OsmNode) : Type 0 where
  pub id : ℕ
  pub lat : ℕ
  pub lon : ℕ
  pub pairs : List (ℕ × ℕ)
  pub has_id : IsLastOf (held NODE_ID) id
  pub has_lat : IsLastOf (held NODE_LAT) lat
  pub has_lon : IsLastOf (held NODE_LON) lon
  pub has_pairs : ArePairs (held NODE_KEYS) (held NODE_VALS) pairs
  pub tags : AreKeptTags table pairs node.tags
  pub is : IsNodeAt scale (unzigzag_of id) (unzigzag_of lat) (unzigzag_of lon) node

-- one node of a DenseNodes
pub record DenseRow : Type 0 where
  pub id : ℤ
  pub lat : ℤ
  pub lon : ℤ
  pub group : List (ℕ × ℕ)

pub record MeansRow (table : List (List ℕ)) (scale : Scale) (row : DenseRow) (node : OsmNode) : Type 0 where
  pub tags : AreKeptTags table row.group node.tags
  pub is : IsNodeAt scale row.id row.lat row.lon node

-- the nodes of a DenseNodes
pub record MeansDenseNodes (table : List (List ℕ)) (scale : Scale) (held : HeldNumbers) (nodes : List OsmNode) : Type 0 where
  pub rows : List DenseRow
  pub ids : AreSums (held DENSE_ID) (map (λ (row : DenseRow). row.id) rows)
  pub lats : AreSums (held DENSE_LAT) (map (λ (row : DenseRow). row.lat) rows)
  pub lons : AreSums (held DENSE_LON) (map (λ (row : DenseRow). row.lon) rows)
  pub groups : AreGroups (held DENSE_KEYS_VALS) (map (λ (row : DenseRow). row.group) rows)
  pub gives : AllZip (MeansRow table scale) rows nodes

-- a way; its id is in two's complement
pub record MeansWay (table : List (List ℕ)) (held : HeldNumbers) (way : OsmWay) : Type 0 where
  pub id : ℕ
  pub pairs : List (ℕ × ℕ)
  pub has_id : IsLastOf (held WAY_ID) id
  pub has_pairs : ArePairs (held WAY_KEYS) (held WAY_VALS) pairs
  pub id_is : way.id ≡ cast_signed w64 id
  pub tags : AreKeptTags table pairs way.tags
  pub refs : AreSums (held WAY_REFS) way.refs

-- the type of a member
abbrev pub type_of : MemberKind → ℕ
type_of members.Node = 0
type_of members.Way = 1
type_of members.Relation = 2

-- a relation; its id is in two's complement
pub record MeansRelation (table : List (List ℕ)) (held : HeldNumbers) (relation : OsmRelation) : Type 0 where
  pub id : ℕ
  pub pairs : List (ℕ × ℕ)
  pub has_id : IsLastOf (held RELATION_ID) id
  pub has_pairs : ArePairs (held RELATION_KEYS) (held RELATION_VALS) pairs
  pub id_is : relation.id ≡ cast_signed w64 id
  pub tags : AreKeptTags table pairs relation.tags
  pub roles : AllZip (λ (index : ℕ) (member : Member). IsUtf8Text table index member.role) (held RELATION_ROLES_SID) relation.members
  pub ids : AreSums (held RELATION_MEMIDS) (map (λ (member : Member). member.id) relation.members)
  pub types : held RELATION_TYPES ≡ map (λ (member : Member). type_of member.kind) relation.members

-- what the numbers of an object mean
abbrev pub MeansObject : ObjectKind → List (List ℕ) → Scale → HeldNumbers → Objects → Type 0
MeansObject kinds.Node table scale held given = (node : OsmNode) × MeansNode table scale held node × (given ≡ just_nodes (node ∷ []))
MeansObject kinds.DenseNodes table scale held given = (nodes : List OsmNode) × MeansDenseNodes table scale held nodes × (given ≡ just_nodes nodes)
MeansObject kinds.Way table scale held given = (way : OsmWay) × MeansWay table held way × (given ≡ just_ways (way ∷ []))
MeansObject kinds.Relation table scale held given = (relation : OsmRelation) × MeansRelation table held relation × (given ≡ just_relations (relation ∷ []))

-- an object with its numbers
pub record GivesObjects (table : List (List ℕ)) (scale : Scale) (object : Object) (given : Objects) : Type 0 where
  pub numbers : List (ℕ × ℕ)
  pub spells : IsObject object.kind object.at object.bytes numbers
  pub means : MeansObject object.kind table scale (held_by numbers) given

-- the objects, one after the other
abbrev pub AreJoined : List (List ℕ) → Scale → List Object → Objects → Type 0
AreJoined table scale [] whole = whole ≡ no_objects
AreJoined table scale (object ∷ objects) whole =
    (given others : Objects) × GivesObjects table scale object given × (whole ≡ joined given others) × AreJoined table scale objects others

-- a block with a string table, whose granularity and offsets are these
abbrev pub units_in : Block → Scale
units_in block = record { granularity = block.granularity; lat_offset = block.lat_offset; lon_offset = block.lon_offset }

pub record IsObjects (block : Block) (objects : Objects) : Type 0 where
  pub table : List (List ℕ)
  pub has_table : block.texts ≡ Some table
  pub joined : AreJoined table (units_in block) block.objects objects
