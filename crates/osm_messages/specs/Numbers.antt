-- The numbers of an object (osmformat.proto: Node, DenseNodes, Way, Relation), by the fields that hold them. It speaks
-- of the format; Means.IsObject says the same without steps.
use Rattle.std.specs.Prelude.{ℕ, Bool, ◌==◌, ◌||◌, if◌then◌else◌, List, [], ◌∷◌, ◌++◌, Result, Ok}
use Rattle.std.specs.List.{list_any}
use Rattle.wire_read.specs.Fields.{Content, Varint, Fixed64, Bytes, Fixed32, WireField, packed_of}
use Rattle.osm_messages.specs.declared.fault.MessageFault.{MessageFault}
use Rattle.osm_messages.specs.declared.kind.ObjectKind.{ObjectKind}
use Rattle.osm_messages.specs.declared.kind.ObjectKind.TheVariants as kinds
use Rattle.osm_messages.specs.declared.fields.TheConstants.{NODE_ID, NODE_KEYS, NODE_VALS, NODE_LAT, NODE_LON, DENSE_ID, DENSE_LAT, DENSE_LON, DENSE_KEYS_VALS, WAY_ID, WAY_KEYS, WAY_VALS, WAY_REFS, RELATION_ID, RELATION_KEYS, RELATION_VALS, RELATION_ROLES_SID, RELATION_MEMIDS, RELATION_TYPES}
use Rattle.osm_messages.specs.Walks.{walk, message}

-- ---- which fields are read

-- the numbers of the fields that hold one number, and of those that hold a list of numbers
pub record Shape : Type 0 where
  pub singles : List ℕ
  pub lists : List ℕ

abbrev pub node_shape : Shape
node_shape = record { singles = NODE_ID ∷ NODE_LAT ∷ NODE_LON ∷ []; lists = NODE_KEYS ∷ NODE_VALS ∷ [] }

abbrev pub dense_shape : Shape
dense_shape = record { singles = []; lists = DENSE_ID ∷ DENSE_LAT ∷ DENSE_LON ∷ DENSE_KEYS_VALS ∷ [] }

abbrev pub way_shape : Shape
way_shape = record { singles = WAY_ID ∷ []; lists = WAY_KEYS ∷ WAY_VALS ∷ WAY_REFS ∷ [] }

abbrev pub relation_shape : Shape
relation_shape = record {
  singles = RELATION_ID ∷ [];
  lists = RELATION_KEYS ∷ RELATION_VALS ∷ RELATION_ROLES_SID ∷ RELATION_MEMIDS ∷ RELATION_TYPES ∷ [];
}

abbrev pub shape_of : ObjectKind → Shape
shape_of kinds.Node = node_shape
shape_of kinds.DenseNodes = dense_shape
shape_of kinds.Way = way_shape
shape_of kinds.Relation = relation_shape

abbrev pub is_field_among : ℕ → List ℕ → Bool
is_field_among number numbers = list_any (λ n. number == n) numbers

-- ---- the numbers, in the order of the bytes, each with the number of its field

-- one number more
abbrev pub with_number : ℕ → List (ℕ × ℕ) → ℕ → Result (List (ℕ × ℕ)) MessageFault
with_number field numbers n = Ok (numbers ++ (field, n) ∷ [])

-- the numbers that packed bytes at this place spell more
abbrev pub with_packed : ℕ → List (ℕ × ℕ) → ℕ → List ℕ → Result (List (ℕ × ℕ)) MessageFault
with_packed field numbers at bytes = walk (with_number field) numbers (packed_of at bytes)

-- A varint is one number, alone or of a list. Bytes are packed numbers of a list. All else is skipped.
abbrev pub with_held : Shape → ℕ → ℕ → Content → List (ℕ × ℕ) → Result (List (ℕ × ℕ)) MessageFault
with_held shape field at (Varint n) numbers =
    if is_field_among field shape.singles || is_field_among field shape.lists then with_number field numbers n else Ok numbers
with_held shape field at (Fixed64 n) numbers = Ok numbers
with_held shape field at (Bytes bytes) numbers = if is_field_among field shape.lists then with_packed field numbers at bytes else Ok numbers
with_held shape field at (Fixed32 n) numbers = Ok numbers

-- the numbers of one field more
abbrev pub number_step : Shape → List (ℕ × ℕ) → WireField → Result (List (ℕ × ℕ)) MessageFault
number_step shape numbers field = with_held shape field.number field.body_at field.content numbers

-- all numbers of an object whose first byte stands at this place
unfoldable pub numbers_in : Shape → ℕ → List ℕ → Result (List (ℕ × ℕ)) MessageFault
numbers_in shape at bytes = message (number_step shape) [] at bytes

-- ---- the numbers of one field

-- those of the field with this number, in order
abbrev pub numbered : ℕ → List (ℕ × ℕ) → List ℕ
numbered field [] = []
numbered field ((number, n) ∷ numbers) = if number == field then n ∷ numbered field numbers else numbered field numbers
