-- What a reader takes of a message's fields: those of a number, where they have the wire type that it wants.
use Rattle.std.specs.Prelude.{ℕ, ◌==◌, ◌&&◌, nat_le, if◌then◌else◌, List, Option, Some, None}
use Rattle.std.specs.List.{filter_map, last_or, find}
use Rattle.wire_read.specs.Fields.{Content, Varint, Fixed64, Bytes, Fixed32, WireField}

-- the bytes that a field holds, and the place of the first of them
abbrev pub held_bytes : ℕ → Content → Option (ℕ × List ℕ)
held_bytes place (Bytes bytes) = Some (place, bytes)
held_bytes place (Varint n) = None
held_bytes place (Fixed64 n) = None
held_bytes place (Fixed32 n) = None

-- the number that a field holds as a varint
abbrev pub held_varint : Content → Option ℕ
held_varint (Varint n) = Some n
held_varint (Fixed64 n) = None
held_varint (Bytes bytes) = None
held_varint (Fixed32 n) = None

-- what a field of this number holds
abbrev pub field_bytes : ℕ → WireField → Option (ℕ × List ℕ)
field_bytes number field = if field.number == number then held_bytes field.body_at field.content else None

abbrev pub field_varint : ℕ → WireField → Option ℕ
field_varint number field = if field.number == number then held_varint field.content else None

-- the bytes of the fields with this number that hold bytes, each with its place, in order
abbrev pub bytes_in : ℕ → List WireField → List (ℕ × List ℕ)
bytes_in number fields = filter_map (field_bytes number) fields

-- the numbers of the fields with this number that hold a varint, in order
abbrev pub varints_in : ℕ → List WireField → List ℕ
varints_in number fields = filter_map (field_varint number) fields

-- the last of a list, where it has one
abbrev pub last_of : {A : Type 0} → List A → Option A
last_of items = last_or None items

-- the first field whose number is in this range
abbrev pub first_between : ℕ → ℕ → List WireField → Option WireField
first_between least most fields = find (λ field. nat_le least field.number && nat_le field.number most) fields
