-- What bytes mean, in the words of the format (osmformat.proto): one relation for each message. Read this first, and
-- then Faults, which says the same of bytes that are no such message: neither names a step or an order of work. Walks,
-- Texts, Numbers, Groups, Blocks and Headers compute both, field by field.
use Rattle.std.specs.Prelude.{◌≡◌, ℕ, ℤ, pos, ◌≤◌, Bool, true, false, ◌==◌, ◌||◌, if◌then◌else◌, List, [], ◌∷◌, ◌++◌, map, length, Option, Some, None, All}
use Rattle.std.specs.Int.{w64, cast_signed}
use Rattle.std.specs.List.{filter, filter_map}
use Rattle.wire_read.specs.Numbers.{SpellsNumbers}
use Rattle.wire_read.specs.Fields.{Content, Varint, Fixed64, Bytes, Fixed32, WireField, SpellsFields}
use Rattle.osm_messages.specs.declared.kind.ObjectKind.{ObjectKind}
use Rattle.osm_messages.specs.declared.kind.ObjectKind.TheVariants as kinds
use Rattle.osm_messages.specs.declared.fields.TheConstants.{HEADER_REQUIRED_FEATURES, BLOCK_STRINGTABLE, BLOCK_PRIMITIVEGROUP, BLOCK_GRANULARITY, BLOCK_LAT_OFFSET, BLOCK_LON_OFFSET, STRINGTABLE_S, GROUP_NODES, GROUP_DENSE, GROUP_WAYS, GROUP_RELATIONS, NODE_ID, NODE_KEYS, NODE_VALS, NODE_LAT, NODE_LON, DENSE_ID, DENSE_LAT, DENSE_LON, DENSE_KEYS_VALS, WAY_ID, WAY_KEYS, WAY_VALS, WAY_REFS, RELATION_ID, RELATION_KEYS, RELATION_VALS, RELATION_ROLES_SID, RELATION_MEMIDS, RELATION_TYPES}
use Rattle.osm_messages.specs.Groups.{Object}
use Rattle.osm_messages.specs.Blocks.{Block}

-- ---- what fields hold

-- the bytes that a field holds, with the offsets of the field and of the first of them
pub record Part : Type 0 where
  pub at : ℕ
  pub body_at : ℕ
  pub bytes : List ℕ

-- the bytes of a field, if it is to be taken
abbrev pub held_part : Bool → ℕ → ℕ → Content → Option Part
held_part taken at body_at (Varint n) = None
held_part taken at body_at (Fixed64 n) = None
held_part taken at body_at (Bytes bytes) = if taken then Some (record { at = at; body_at = body_at; bytes = bytes }) else None
held_part taken at body_at (Fixed32 n) = None

-- the varint of a field, if it is to be taken
abbrev pub held_varint : Bool → Content → Option ℕ
held_varint taken (Varint n) = if taken then Some n else None
held_varint taken (Fixed64 n) = None
held_varint taken (Bytes bytes) = None
held_varint taken (Fixed32 n) = None

-- the fields of this number that hold bytes, in order
abbrev pub parts : ℕ → List WireField → List Part
parts number fields = filter_map (λ (field : WireField). held_part (field.number == number) field.at field.body_at field.content) fields

-- the varints of the fields of this number, in order
abbrev pub varints : ℕ → List WireField → List ℕ
varints number fields = filter_map (λ (field : WireField). held_varint (field.number == number) field.content) fields

-- the whole is what each of these gives, one after the other
abbrev pub Together : {A B : Type 0} → (A → List B → Type 0) → List A → List B → Type 0
Together gives [] whole = whole ≡ []
Together {B = B} gives (x ∷ xs) whole = (given others : List B) × gives x given × (whole ≡ given ++ others) × Together gives xs others

-- ---- a header

-- its required features, in order
pub record IsHeaderBlock (at : ℕ) (bytes : List ℕ) (features : List (ℕ × List ℕ)) : Type 0 where
  pub fields : List WireField
  pub spells : SpellsFields bytes at fields
  pub features_are : features ≡ map (λ (part : Part). (part.at, part.bytes)) (parts HEADER_REQUIRED_FEATURES fields)

-- ---- a string table

-- its texts are its fields `s`
pub record IsStringTable (at : ℕ) (bytes : List ℕ) (texts : List (List ℕ)) : Type 0 where
  pub fields : List WireField
  pub spells : SpellsFields bytes at fields
  pub texts_are : texts ≡ map (λ (part : Part). part.bytes) (parts STRINGTABLE_S fields)

-- ---- the numbers of an object

-- the fields that hold one number
abbrev pub holds_one : ObjectKind → ℕ → Bool
holds_one kinds.Node number = number == NODE_ID || number == NODE_LAT || number == NODE_LON
holds_one kinds.DenseNodes number = false
holds_one kinds.Way number = number == WAY_ID
holds_one kinds.Relation number = number == RELATION_ID

-- the fields that hold a list of numbers
abbrev pub holds_many : ObjectKind → ℕ → Bool
holds_many kinds.Node number = number == NODE_KEYS || number == NODE_VALS
holds_many kinds.DenseNodes number = number == DENSE_ID || number == DENSE_LAT || number == DENSE_LON || number == DENSE_KEYS_VALS
holds_many kinds.Way number = number == WAY_KEYS || number == WAY_VALS || number == WAY_REFS
holds_many kinds.Relation number = number == RELATION_KEYS || number == RELATION_VALS || number == RELATION_ROLES_SID || number == RELATION_MEMIDS || number == RELATION_TYPES

-- bytes of a list are packed numbers; other bytes are no numbers
abbrev pub HoldsPacked : Bool → List ℕ → List ℕ → Type 0
HoldsPacked true bytes held = SpellsNumbers bytes held
HoldsPacked false bytes held = held ≡ []

-- a varint is one number, alone or of a list
abbrev pub HoldsNumbers : ObjectKind → ℕ → Content → List ℕ → Type 0
HoldsNumbers kind number (Varint n) held = held ≡ (if holds_one kind number || holds_many kind number then n ∷ [] else [])
HoldsNumbers kind number (Fixed64 n) held = held ≡ []
HoldsNumbers kind number (Bytes bytes) held = HoldsPacked (holds_many kind number) bytes held
HoldsNumbers kind number (Fixed32 n) held = held ≡ []

-- the numbers that a field holds, each with the number of the field
abbrev pub GivesNumbers : ObjectKind → WireField → List (ℕ × ℕ) → Type 0
GivesNumbers kind field given = (held : List ℕ) × HoldsNumbers kind field.number field.content held × (given ≡ map (λ n. (field.number, n)) held)

-- an object's numbers are those of its fields
pub record IsObject (kind : ObjectKind) (at : ℕ) (bytes : List ℕ) (numbers : List (ℕ × ℕ)) : Type 0 where
  pub fields : List WireField
  pub spells : SpellsFields bytes at fields
  pub numbers_are : Together (GivesNumbers kind) fields numbers

-- ---- a PrimitiveGroup

-- the kind of object that a field of this number holds
abbrev pub kind_of_field : ℕ → Option ObjectKind
kind_of_field number =
    if number == GROUP_NODES then Some kinds.Node
    else (if number == GROUP_DENSE then Some kinds.DenseNodes
    else (if number == GROUP_WAYS then Some kinds.Way
    else (if number == GROUP_RELATIONS then Some kinds.Relation
    else None)))

abbrev pub object_by : ℕ → List ℕ → Option ObjectKind → Option Object
object_by at bytes None = None
object_by at bytes (Some kind) = Some (record { kind = kind; at = at; bytes = bytes })

abbrev pub held_object : ℕ → ℕ → Content → Option Object
held_object number at (Varint n) = None
held_object number at (Fixed64 n) = None
held_object number at (Bytes bytes) = object_by at bytes (kind_of_field number)
held_object number at (Fixed32 n) = None

-- the objects of these fields, in order
abbrev pub objects_of_fields : List WireField → List Object
objects_of_fields fields = filter_map (λ (field : WireField). held_object field.number field.body_at field.content) fields

abbrev pub is_dense_nodes : ObjectKind → Bool
is_dense_nodes kinds.Node = false
is_dense_nodes kinds.DenseNodes = true
is_dense_nodes kinds.Way = false
is_dense_nodes kinds.Relation = false

abbrev pub dense_among : List Object → List Object
dense_among objects = filter (λ (object : Object). is_dense_nodes object.kind) objects

-- an object has numbers
abbrev pub SpellsObject : Object → Type 0
SpellsObject object = (numbers : List (ℕ × ℕ)) × IsObject object.kind object.at object.bytes numbers

-- a PrimitiveGroup's objects are its fields of the four kinds, at most one of them is a DenseNodes, and each has numbers
pub record IsPrimitiveGroup (at : ℕ) (bytes : List ℕ) (objects : List Object) : Type 0 where
  pub fields : List WireField
  pub spells : SpellsFields bytes at fields
  pub objects_are : objects ≡ objects_of_fields fields
  pub one_dense : length (dense_among objects) ≤ 1
  pub each_spelled : All SpellsObject objects

-- ---- a PrimitiveBlock

-- no table, or one table with these texts
abbrev pub HasTable : List Part → Option (List (List ℕ)) → Type 0
HasTable [] texts = texts ≡ None
HasTable (part ∷ []) texts = (found : List (List ℕ)) × IsStringTable part.body_at part.bytes found × (texts ≡ Some found)
HasTable (part ∷ other ∷ others) texts = ⊥

-- the bytes of a field are a PrimitiveGroup of these objects
abbrev pub GivesGroup : Part → List Object → Type 0
GivesGroup part objects = IsPrimitiveGroup part.body_at part.bytes objects

-- the last of the numbers, where there is one; each is a signed number of 64 bits
abbrev pub last_signed : ℤ → List ℕ → ℤ
last_signed otherwise [] = otherwise
last_signed otherwise (n ∷ numbers) = last_signed (cast_signed w64 n) numbers

-- a PrimitiveBlock: its string table, its PrimitiveGroups, its granularity and its offsets
pub record IsPrimitiveBlock (at : ℕ) (bytes : List ℕ) (block : Block) : Type 0 where
  pub fields : List WireField
  pub spells : SpellsFields bytes at fields
  pub table : HasTable (parts BLOCK_STRINGTABLE fields) block.texts
  pub groups : Together GivesGroup (parts BLOCK_PRIMITIVEGROUP fields) block.objects
  pub granularity : block.granularity ≡ last_signed (pos 100) (varints BLOCK_GRANULARITY fields)
  pub lat_offset : block.lat_offset ≡ last_signed (pos 0) (varints BLOCK_LAT_OFFSET fields)
  pub lon_offset : block.lon_offset ≡ last_signed (pos 0) (varints BLOCK_LON_OFFSET fields)
