-- Which faults stand in bytes, and at which offsets, in the words of the format. Many may stand there; a reader is told
-- the first one.
use Rattle.std.specs.Prelude.{◌≡◌, ℕ, ◌≤◌, Bool, true, ◌==◌, ◌&&◌, ◌⊎◌, List, [], ◌∷◌, ◌++◌, Option, Some, None}
use Rattle.wire_read.specs.declared.fault.WireFault.{WireFault}
use Rattle.wire_read.specs.declared.fault.WireFault.TheVariants as wires
use Rattle.wire_read.specs.Numbers.{BreaksNumbers}
use Rattle.wire_read.specs.Fields.{Content, Varint, Fixed64, Bytes, Fixed32, WireField, SpellsFields, BreaksFields}
use Rattle.osm_messages.specs.declared.fault.MessageFault.{MessageFault}
use Rattle.osm_messages.specs.declared.fault.MessageFault.TheVariants as faults
use Rattle.osm_messages.specs.declared.kind.ObjectKind.{ObjectKind}
use Rattle.std.specs.List.{list_any}
use Rattle.osm_messages.specs.declared.fields.TheConstants.{BLOCK_STRINGTABLE, BLOCK_PRIMITIVEGROUP, GROUP_DENSE}
use Rattle.osm_messages.specs.Groups.{Object}
use Rattle.osm_messages.specs.Means.{Part, held_part, parts, holds_many, is_dense_nodes, held_object, objects_of_fields}

-- ---- offsets

abbrev pub wire_offset : WireFault → ℕ
wire_offset (wires.Short at) = at
wire_offset (wires.LongVarint at) = at
wire_offset (wires.BadWire at kind) = at
wire_offset (wires.BadNumber at) = at

-- the offset of a fault; out of memory stands in no bytes
abbrev pub fault_offset : MessageFault → ℕ
fault_offset (faults.Wire fault) = wire_offset fault
fault_offset (faults.Repeated at number) = at
fault_offset faults.OutOfMemory = 0

-- ---- in any message

-- which faults stand in a field that comes behind those fields
abbrev pub InField : Type 1
InField = List WireField → WireField → MessageFault → Type 0

-- the fault stands in one of the fields, which come behind those before them
abbrev pub StandsAmong : InField → List WireField → List WireField → MessageFault → Type 0
StandsAmong inside before [] fault = ⊥
StandsAmong inside before (field ∷ fields) fault = inside before field fault ⊎ StandsAmong inside (before ++ field ∷ []) fields fault

-- the bytes are these fields; or they begin with them, and this is the fault behind them
abbrev pub AreFields : List ℕ → ℕ → List WireField → Option WireFault → Type 0
AreFields bytes at fields None = SpellsFields bytes at fields
AreFields bytes at fields (Some wire) = BreaksFields bytes at fields wire

abbrev pub IsBehind : Option WireFault → MessageFault → Type 0
IsBehind None fault = ⊥
IsBehind (Some wire) fault = fault ≡ faults.Wire wire

-- the fault stands behind the fields of the bytes or in one of them
pub record StandsIn (inside : InField) (at : ℕ) (bytes : List ℕ) (fault : MessageFault) : Type 0 where
  pub fields : List WireField
  pub behind : Option WireFault
  pub are_fields : AreFields bytes at fields behind
  pub stands : IsBehind behind fault ⊎ StandsAmong inside [] fields fault

-- no fault that stands there comes before it
pub record IsFirst (inside : InField) (at : ℕ) (bytes : List ℕ) (fault : MessageFault) : Type 0 where
  pub stands : StandsIn inside at bytes fault
  pub first : (other : MessageFault) → StandsIn inside at bytes other → fault_offset fault ≤ fault_offset other

-- ---- in a header and in a string table: none inside of a field

abbrev pub InNone : InField
InNone before field fault = ⊥

-- ---- in an object: a fault of packed numbers

pub record InPacked (at : ℕ) (bytes : List ℕ) (fault : MessageFault) : Type 0 where
  pub numbers : List ℕ
  pub wire : WireFault
  pub breaks : BreaksNumbers bytes at numbers wire
  pub fault_is : fault ≡ faults.Wire wire

-- where the field is a list
abbrev pub InList : Bool → ℕ → Content → MessageFault → Type 0
InList listed at (Varint n) fault = ⊥
InList listed at (Fixed64 n) fault = ⊥
InList listed at (Bytes bytes) fault = (listed ≡ true) × InPacked at bytes fault
InList listed at (Fixed32 n) fault = ⊥

abbrev pub InNumbers : ObjectKind → InField
InNumbers kind before field fault = InList (holds_many kind field.number) field.body_at field.content fault

-- ---- in a PrimitiveGroup: a second DenseNodes, or a fault of an object

abbrev pub InObject : Bool → ℕ → Option Object → MessageFault → Type 0
InObject dense_before at None fault = ⊥
InObject dense_before at (Some object) fault =
    (((is_dense_nodes object.kind && dense_before) ≡ true) × (fault ≡ faults.Repeated at GROUP_DENSE))
    ⊎ StandsIn (InNumbers object.kind) object.at object.bytes fault

-- one of the objects is a DenseNodes
abbrev pub has_dense_nodes : List Object → Bool
has_dense_nodes objects = list_any (λ (object : Object). is_dense_nodes object.kind) objects

abbrev pub InMember : InField
InMember before field fault = InObject (has_dense_nodes (objects_of_fields before)) field.at (held_object field.number field.body_at field.content) fault

-- ---- in a PrimitiveBlock: a second string table, or a fault of a table or a PrimitiveGroup

abbrev pub InTable : List Part → Option Part → MessageFault → Type 0
InTable before None fault = ⊥
InTable before (Some part) fault = ((before ≡ [] → ⊥) × (fault ≡ faults.Repeated part.at BLOCK_STRINGTABLE)) ⊎ StandsIn InNone part.body_at part.bytes fault

abbrev pub InGroup : Option Part → MessageFault → Type 0
InGroup None fault = ⊥
InGroup (Some part) fault = StandsIn InMember part.body_at part.bytes fault

abbrev pub InBlock : InField
InBlock before field fault =
    InTable (parts BLOCK_STRINGTABLE before) (held_part (field.number == BLOCK_STRINGTABLE) field.at field.body_at field.content) fault
    ⊎ InGroup (held_part (field.number == BLOCK_PRIMITIVEGROUP) field.at field.body_at field.content) fault
