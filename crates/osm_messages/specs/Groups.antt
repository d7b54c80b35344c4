-- The objects of a PrimitiveGroup (osmformat.proto). The numbers of each have to be spelled. It speaks of the
-- format; Means.IsPrimitiveGroup says the same without steps.
use Rattle.std.specs.Prelude.{ℕ, Bool, true, false, ◌==◌, if◌then◌else◌, List, [], ◌∷◌, ◌++◌, IsOk, Result, Ok, Err}
use Rattle.std.specs.List.{list_any}
use Rattle.wire_read.specs.Fields.{WireField}
use Rattle.osm_messages.specs.declared.fault.MessageFault.{MessageFault}
use Rattle.osm_messages.specs.declared.fault.MessageFault.TheVariants as faults
use Rattle.osm_messages.specs.declared.kind.ObjectKind.{ObjectKind}
use Rattle.osm_messages.specs.declared.kind.ObjectKind.TheVariants as kinds
use Rattle.osm_messages.specs.declared.fields.TheConstants.{GROUP_NODES, GROUP_DENSE, GROUP_WAYS, GROUP_RELATIONS}
use Rattle.osm_messages.specs.Walks.{◌>>=◌, message, with_bytes}
use Rattle.osm_messages.specs.Numbers.{shape_of, numbers_in}

-- an object: its kind, the offset of its first byte, and its bytes
pub record Object : Type 0 where
  pub kind : ObjectKind
  pub at : ℕ
  pub bytes : List ℕ

abbrev pub is_dense : ObjectKind → Bool
is_dense kinds.Node = false
is_dense kinds.DenseNodes = true
is_dense kinds.Way = false
is_dense kinds.Relation = false

abbrev pub has_dense : List Object → Bool
has_dense objects = list_any (λ (object : Object). is_dense object.kind) objects

-- one object more, whose numbers are spelled
abbrev pub with_object : List Object → Object → Result (List Object) MessageFault
with_object objects object = do
  numbers ← numbers_in (shape_of object.kind) object.at object.bytes
  Ok (objects ++ object ∷ [])

-- a DenseNodes, whose field stands at this offset, and which a PrimitiveGroup has once
abbrev pub with_dense : List Object → ℕ → Object → Result (List Object) MessageFault
with_dense objects at object = if has_dense objects then Err (faults.Repeated at GROUP_DENSE) else with_object objects object

-- the object of this kind that a field holds
abbrev pub object_of : ObjectKind → WireField → List ℕ → Object
object_of kind field bytes = record { kind = kind; at = field.body_at; bytes = bytes }

-- the object of a field of a PrimitiveGroup more
abbrev pub with_member : List Object → WireField → List ℕ → Result (List Object) MessageFault
with_member objects field bytes =
    if field.number == GROUP_NODES then with_object objects (object_of kinds.Node field bytes)
    else (if field.number == GROUP_DENSE then with_dense objects field.at (object_of kinds.DenseNodes field bytes)
    else (if field.number == GROUP_WAYS then with_object objects (object_of kinds.Way field bytes)
    else (if field.number == GROUP_RELATIONS then with_object objects (object_of kinds.Relation field bytes)
    else Ok objects)))

abbrev pub group_step : List Object → WireField → Result (List Object) MessageFault
group_step objects field = with_bytes objects field.content (with_member objects field)

-- the objects of a PrimitiveGroup whose first byte stands at this offset
unfoldable pub group_in : ℕ → List ℕ → Result (List Object) MessageFault
group_in at bytes = message group_step [] at bytes

-- ---- what is known of them

-- the numbers of an object are spelled, so that reading them has no fault
abbrev pub HasNumbers : Object → Type 0
HasNumbers object = IsOk (numbers_in (shape_of object.kind) object.at object.bytes)
