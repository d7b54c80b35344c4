-- What is kept of a message while its fields are looked through: as the program goes through them; a reader of the
-- format may skip this.
use Rattle.std.specs.Prelude.{ℕ, Bool, true, ◌==◌, if◌then◌else◌, List, [], ◌∷◌, ◌++◌, Result, Ok, Err}
use Rattle.wire_read.specs.Fields.{Content, Varint, Fixed64, Bytes, Fixed32, WireField, packed_of}
use Rattle.osm_messages.specs.declared.fault.MessageFault.{MessageFault}
use Rattle.osm_messages.specs.declared.fault.MessageFault.TheVariants as faults
use Rattle.osm_messages.specs.declared.kind.ObjectKind.TheVariants as kinds
use Rattle.osm_messages.specs.declared.fields.TheConstants.{GROUP_NODES, GROUP_DENSE, GROUP_WAYS, GROUP_RELATIONS}
use Rattle.osm_messages.specs.Walks.{◌>>=◌, with_end, with_bytes}
use Rattle.osm_messages.specs.Numbers.{Shape, is_field_among, shape_of, numbers_in}
use Rattle.osm_messages.specs.Groups.{Object, is_dense, object_of}

-- ---- objects whose numbers aren't kept

-- no fault, or the fault
abbrev pub spelled : {A : Type 0} → Result A MessageFault → Result (Unit {0}) MessageFault
spelled given = given >>= λ _. Ok tt

abbrev pub check_held : Shape → ℕ → ℕ → Content → Result (Unit {0}) MessageFault
check_held shape field at (Varint n) = Ok tt
check_held shape field at (Fixed64 n) = Ok tt
check_held shape field at (Bytes bytes) = if is_field_among field shape.lists then with_end (packed_of at bytes).fault tt else Ok tt
check_held shape field at (Fixed32 n) = Ok tt

abbrev pub check_step : Shape → Unit {0} → WireField → Result (Unit {0}) MessageFault
check_step shape so_far field = check_held shape field.number field.body_at field.content

-- ---- the objects of a PrimitiveGroup, behind those of the groups before it

-- all objects so far, and whether the PrimitiveGroup has a DenseNodes
abbrev pub Pass : Type 0
Pass = List Object × Bool

-- the objects of a PrimitiveGroup behind others
abbrev pub behind : List Object → Result (List Object) MessageFault → Result (List Object) MessageFault
behind before given = given >>= λ more. Ok (before ++ more)

-- one object more
abbrev pub pass_object : Pass → Object → Result Pass MessageFault
pass_object pass object = do
  numbers ← numbers_in (shape_of object.kind) object.at object.bytes
  Ok (pass.0 ++ object ∷ [], if is_dense object.kind then true else pass.1)

abbrev pub pass_dense : Pass → ℕ → Object → Result Pass MessageFault
pass_dense pass at object = if pass.1 then Err (faults.Repeated at GROUP_DENSE) else pass_object pass object

abbrev pub pass_member : Pass → WireField → List ℕ → Result Pass MessageFault
pass_member pass field bytes =
    if field.number == GROUP_NODES then pass_object pass (object_of kinds.Node field bytes)
    else (if field.number == GROUP_DENSE then pass_dense pass field.at (object_of kinds.DenseNodes field bytes)
    else (if field.number == GROUP_WAYS then pass_object pass (object_of kinds.Way field bytes)
    else (if field.number == GROUP_RELATIONS then pass_object pass (object_of kinds.Relation field bytes)
    else Ok pass)))

abbrev pub pass_step : Pass → WireField → Result Pass MessageFault
pass_step pass field = with_bytes pass field.content (pass_member pass field)
