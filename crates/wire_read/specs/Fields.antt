-- The fields of a message (protobuf.dev, "Encoding", "Message Structure"): each is a tag and a body.
use Rattle.std.specs.Prelude.{◌≡◌, ℕ, zero, suc, ◌+◌, ◌-◌, ◌*◌, ◌/◌, ◌%◌, ◌^◌, ◌<◌, ◌≤◌, nat_lt, ◌==◌, ◌||◌, if◌then◌else◌, ◌⊎◌, true, false, List, [], ◌∷◌, ◌++◌, length, take, drop, Option, Some, None, Result, Ok, Err}
use Rattle.std.specs.Int.{w32, w64, from_le_bytes}
use Rattle.std.specs.Iterator.{Count, at_most}
use Rattle.wire_read.specs.declared.fault.WireFault.{WireFault}
use Rattle.wire_read.specs.declared.fault.WireFault.TheVariants as faults
use Rattle.wire_read.specs.declared.fields.Body.{Body}
use Rattle.wire_read.specs.declared.fields.Body.TheVariants as bodies
use Rattle.wire_read.specs.declared.fields.Field.{Field}
use Rattle.wire_read.specs.Varint.{IsVarint, AllGoOn, VarintOutcome, Spelled, Short, Long, varint_of}
use Rattle.wire_read.specs.Numbers.{SpellsNumbers, BreaksNumbers, Unread}

-- ---- a field

-- what a field holds, by its wire type
pub data Content : Type 0 where
  Varint : ℕ → Content
  Fixed64 : ℕ → Content
  Bytes : List ℕ → Content
  Fixed32 : ℕ → Content

-- a field: its number, the places of its first byte and of its body, and what it holds
pub record WireField : Type 0 where
  pub number : ℕ
  pub at : ℕ
  pub body_at : ℕ
  pub content : Content

-- how many bytes of the message it holds as they are
abbrev pub inner_length : Content → ℕ
inner_length (Varint n) = 0
inner_length (Fixed64 n) = 0
inner_length (Bytes inner) = length inner
inner_length (Fixed32 n) = 0

-- what a body of the program holds
abbrev pub content_of : Body → Content
content_of (bodies.Varint n) = Varint n
content_of (bodies.Fixed64 n) = Fixed64 n
content_of (bodies.Bytes bytes) = Bytes bytes.now
content_of (bodies.Fixed32 n) = Fixed32 n

-- a field of the program, as these definitions see it
abbrev pub seen : Field → WireField
seen field = record { number = field.number; at = field.at; body_at = field.body_at; content = content_of field.body }

-- ---- the grammar

-- the wire types that have a body: a varint, eight bytes, a length and so many bytes, four bytes
abbrev pub IsKind : ℕ → Type 0
IsKind kind = (kind ≡ 0) ⊎ ((kind ≡ 1) ⊎ ((kind ≡ 2) ⊎ (kind ≡ 5)))

-- the bytes are a body of this wire type that holds this
abbrev pub IsBody : ℕ → List ℕ → Content → Type 0
IsBody kind bytes (Varint n) = (kind ≡ 0) × IsVarint bytes n
IsBody kind bytes (Fixed64 n) = (kind ≡ 1) × (length bytes ≡ 8) × (n ≡ from_le_bytes w64 bytes)
IsBody kind bytes (Bytes inner) = (kind ≡ 2) × ((front : List ℕ) × IsVarint front (length inner) × (bytes ≡ front ++ inner))
IsBody kind bytes (Fixed32 n) = (kind ≡ 5) × (length bytes ≡ 4) × (n ≡ from_le_bytes w32 bytes)

-- how far behind the first byte of a field its body stands, where its tag and the whole of it have so many bytes:
-- behind the tag; bytes stand behind their length too, at the end of the field
abbrev pub body_offset : ℕ → ℕ → Content → ℕ
body_offset tag whole (Varint n) = tag
body_offset tag whole (Fixed64 n) = tag
body_offset tag whole (Bytes inner) = whole - length inner
body_offset tag whole (Fixed32 n) = tag

-- The bytes are a field: a tag, which is a varint of the number and the wire type, and a body.
pub record IsField (bytes : List ℕ) (field : WireField) : Type 0 where
  pub tag : List ℕ
  pub body : List ℕ
  pub kind : ℕ
  pub parts : bytes ≡ tag ++ body
  pub spells_tag : IsVarint tag (8 * field.number + kind)
  pub least : 1 ≤ field.number
  pub greatest : field.number ≤ 536_870_911
  pub is_body : IsBody kind body field.content
  pub body_place : field.body_at ≡ field.at + body_offset (length tag) (length bytes) field.content

-- the bytes spell these fields, one after the other, and nothing more; the first byte stands at base
abbrev pub SpellsFields : List ℕ → ℕ → List WireField → Type 0
SpellsFields bytes base [] = bytes ≡ []
SpellsFields bytes base (field ∷ fields) =
    (front rest : List ℕ) × IsField front field × (field.at ≡ base) × (bytes ≡ front ++ rest) × SpellsFields rest (base + length front) fields

-- the bytes end inside a varint; they begin with ten bytes that all go on
abbrev pub IsCut : List ℕ → Type 0
IsCut bytes = (length bytes < 10) × AllGoOn bytes

abbrev pub IsEndless : List ℕ → Type 0
IsEndless bytes = (10 ≤ length bytes) × AllGoOn (take 10 bytes)

-- a body of this wire type isn't there: the bytes end inside it
abbrev pub EndsInBody : ℕ → List ℕ → Type 0
EndsInBody kind bytes =
    ((kind ≡ 0) × IsCut bytes)
    ⊎ (((kind ≡ 1) × (length bytes < 8))
    ⊎ (((kind ≡ 2) × (IsCut bytes ⊎ ((front inner : List ℕ) × ((n : ℕ) × IsVarint front n × (bytes ≡ front ++ inner) × (length inner < n)))))
    ⊎ ((kind ≡ 5) × (length bytes < 4))))

-- a body of this wire type isn't there: its varint has more than ten bytes
abbrev pub EndlessBody : ℕ → List ℕ → Type 0
EndlessBody kind bytes = ((kind ≡ 0) ⊎ (kind ≡ 2)) × IsEndless bytes

-- the bytes begin with a tag, and this follows it
pub record Tagged (bytes : List ℕ) : Type 0 where
  pub tag : List ℕ
  pub body : List ℕ
  pub number : ℕ
  pub kind : ℕ
  pub kind_fits : kind < 8
  pub parts : bytes ≡ tag ++ body
  pub spells : IsVarint tag (8 * number + kind)

-- a number that a field may have
abbrev pub IsFieldNumber : ℕ → Type 0
IsFieldNumber number = (1 ≤ number) × (number ≤ 536_870_911)

-- a tag that a field may have
abbrev pub IsGoodTag : (bytes : List ℕ) → Tagged bytes → Type 0
IsGoodTag bytes tagged = IsKind tagged.kind × IsFieldNumber tagged.number

-- The bytes aren't empty and no field begins them: this is the fault, where they stand at this place. A bad
-- wire type comes before a bad number, and both before a body that isn't there.
abbrev pub HasFieldFault : List ℕ → ℕ → WireFault → Type 0
HasFieldFault bytes place (faults.Short at) =
    (at ≡ place) × (0 < length bytes)
    × (IsCut bytes ⊎ ((tagged : Tagged bytes) × IsGoodTag bytes tagged × EndsInBody tagged.kind tagged.body))
HasFieldFault bytes place (faults.LongVarint at) =
    (at ≡ place) × (IsEndless bytes ⊎ ((tagged : Tagged bytes) × IsGoodTag bytes tagged × EndlessBody tagged.kind tagged.body))
HasFieldFault bytes place (faults.BadWire at kind) =
    (at ≡ place) × ((tagged : Tagged bytes) × (tagged.kind ≡ kind) × (IsKind kind → ⊥))
HasFieldFault bytes place (faults.BadNumber at) =
    (at ≡ place) × ((tagged : Tagged bytes) × IsKind tagged.kind × (IsFieldNumber tagged.number → ⊥))

-- the bytes begin with these fields, and what follows has this fault; the first byte stands at base
abbrev pub BreaksFields : List ℕ → ℕ → List WireField → WireFault → Type 0
BreaksFields bytes base [] fault = HasFieldFault bytes base fault
BreaksFields bytes base (field ∷ fields) fault =
    (front rest : List ℕ) × IsField front field × (field.at ≡ base) × (bytes ≡ front ++ rest) × BreaksFields rest (base + length front) fields fault

-- ---- what a list of bytes that isn't empty begins with, computed

infixl 10 ◌>>=◌
abbrev pub ◌>>=◌ : {A B : Type 0} → Result A WireFault → (A → Result B WireFault) → Result B WireFault
(Ok x) >>= f = f x
(Err fault) >>= f = Err fault

-- a varint and the bytes after it, or its fault
abbrev pub varint_read : ℕ → VarintOutcome → Result (ℕ × List ℕ) WireFault
varint_read at (Spelled n rest) = Ok (n, rest)
varint_read at Short = Err (faults.Short at)
varint_read at Long = Err (faults.LongVarint at)

abbrev pub varint_at : ℕ → List ℕ → Result (ℕ × List ℕ) WireFault
varint_at at bytes = varint_read at (varint_of bytes)

-- so many bytes and those after them
unfoldable pub part_at : ℕ → ℕ → List ℕ → Result (List ℕ × List ℕ) WireFault
part_at at count bytes = if nat_lt (length bytes) count then Err (faults.Short at) else Ok (take count bytes, drop count bytes)

-- the field number of a tag, where it and the wire type are good
unfoldable pub number_at : ℕ → ℕ → Result ℕ WireFault
number_at at tag =
    if tag % 8 == 0 || tag % 8 == 1 || tag % 8 == 2 || tag % 8 == 5
    then (if tag / 8 == 0 || nat_lt 536_870_911 (tag / 8) then Err (faults.BadNumber at) else Ok (tag / 8))
    else Err (faults.BadWire at (tag % 8))

-- the body of each wire type
unfoldable pub varint_body : ℕ → List ℕ → Result (Content × List ℕ) WireFault
varint_body at bytes = do
  n ← varint_at at bytes
  Ok (Varint n.0, n.1)

unfoldable pub fixed64_body : ℕ → List ℕ → Result (Content × List ℕ) WireFault
fixed64_body at bytes = do
  part ← part_at at 8 bytes
  Ok (Fixed64 (from_le_bytes w64 part.0), part.1)

unfoldable pub bytes_body : ℕ → List ℕ → Result (Content × List ℕ) WireFault
bytes_body at bytes = do
  n ← varint_at at bytes
  part ← part_at at n.0 n.1
  Ok (Bytes part.0, part.1)

unfoldable pub fixed32_body : ℕ → List ℕ → Result (Content × List ℕ) WireFault
fixed32_body at bytes = do
  part ← part_at at 4 bytes
  Ok (Fixed32 (from_le_bytes w32 part.0), part.1)

unfoldable pub body_of : ℕ → ℕ → List ℕ → Result (Content × List ℕ) WireFault
body_of at kind bytes =
    if kind == 0 then varint_body at bytes
    else (if kind == 1 then fixed64_body at bytes
    else (if kind == 2 then bytes_body at bytes
    else fixed32_body at bytes))

-- a field at this place, whose tag and whole have so many bytes
abbrev pub field_at : ℕ → ℕ → ℕ → ℕ → Content → WireField
field_at at number tag whole content = record { number = number; at = at; body_at = at + body_offset tag whole content; content = content }

-- the field that begins the bytes and the bytes after it, or the fault; the first byte stands at this place
unfoldable pub field_of : ℕ → List ℕ → Result (WireField × List ℕ) WireFault
field_of at bytes = do
  tag ← varint_at at bytes
  number ← number_at at tag.0
  body ← body_of at (tag.0 % 8) tag.1
  Ok (field_at at number (length bytes - length tag.1) (length bytes - length body.1) body.0, body.1)

-- ---- the whole list, computed

-- what stands one after the other, up to the end or up to the first fault, and that fault
pub record Listed (A : Type 0) : Type 0 where
  pub items : List A
  pub fault : Option WireFault

-- one before what follows
abbrev pub with_item : {A : Type 0} → A → Listed A → Listed A
with_item item list = record { items = item ∷ list.items; fault = list.fault }

-- the list that `count` bytes give, from the first item and the list of the rest
abbrev pub after_item : {A : Type 0} → ℕ → ℕ → Result (A × List ℕ) WireFault → (ℕ → List ℕ → Listed A) → Listed A
after_item at count (Ok first) others = with_item first.0 (others (at + (count - length first.1)) first.1)
after_item at count (Err fault) others = record { items = []; fault = Some fault }

-- what the bytes give, read from the front, where at most so many items come
abbrev pub listed_within : {A : Type 0} → (ℕ → List ℕ → Result (A × List ℕ) WireFault) → ℕ → ℕ → List ℕ → Listed A
listed_within read most at [] = record { items = []; fault = None }
listed_within read zero at (b ∷ bytes) = record { items = []; fault = None }
listed_within read (suc most) at (b ∷ bytes) = after_item at (length (b ∷ bytes)) (read at (b ∷ bytes)) (listed_within read most)

-- the fields of a message and the fault behind them, if there is one; the first byte stands at this place
unfoldable pub message_of : ℕ → List ℕ → Listed WireField
message_of at bytes = listed_within field_of (length bytes) at bytes

-- the same of packed numbers
unfoldable pub packed_of : ℕ → List ℕ → Listed ℕ
packed_of at bytes = listed_within varint_at (length bytes) at bytes

-- all of a list, where no fault is behind it
abbrev pub unbroken : {A : Type 0} → List A → Option WireFault → Result (List A) WireFault
unbroken items None = Ok items
unbroken items (Some fault) = Err fault

-- the fields of the bytes, or the first fault; the numbers, or the first fault
abbrev pub fields_of : ℕ → List ℕ → Result (List WireField) WireFault
fields_of at bytes = unbroken (message_of at bytes).items (message_of at bytes).fault

abbrev pub numbers_of : ℕ → List ℕ → Result (List ℕ) WireFault
numbers_of at bytes = unbroken (packed_of at bytes).items (packed_of at bytes).fault

-- ---- what holds of them, for every list of bytes

-- For each list of bytes exactly one of the two holds, of one list of fields and one fault; which one is computed.
pub record IsMessageOneWay (bytes : List ℕ) (base : ℕ) : Type 0 where
  pub some : ((fields : List WireField) × SpellsFields bytes base fields) ⊎ ((fields : List WireField) × (fault : WireFault) × BreaksFields bytes base fields fault)
  pub one_list : (a b : List WireField) → SpellsFields bytes base a → SpellsFields bytes base b → a ≡ b
  pub one_fault : (a b : List WireField) (f g : WireFault) → BreaksFields bytes base a f → BreaksFields bytes base b g → (a ≡ b) × (f ≡ g)
  pub not_both : (a b : List WireField) (f : WireFault) → SpellsFields bytes base a → BreaksFields bytes base b f → ⊥
  pub spelled : (fields : List WireField) → SpellsFields bytes base fields → message_of base bytes ≡ record { items = fields; fault = None }
  pub broken : (fields : List WireField) (fault : WireFault) → BreaksFields bytes base fields fault → message_of base bytes ≡ record { items = fields; fault = Some fault }

-- The numbers that packed bytes spell are computed, and so is their fault.
pub record PackedIsComputed (bytes : List ℕ) (base : ℕ) : Type 0 where
  pub spelled : (numbers : List ℕ) → SpellsNumbers bytes numbers → packed_of base bytes ≡ record { items = numbers; fault = None }
  pub broken : (numbers : List ℕ) (fault : WireFault) → BreaksNumbers bytes base numbers fault → packed_of base bytes ≡ record { items = numbers; fault = Some fault }

-- ---- one field after the other

-- at most a field for each byte is left, and nothing after a fault
abbrev pub fields_left : Unread → Count
fields_left s = at_most (if s.broken then 0 else length s.rest)

-- What a call answers, and what it leaves:
-- nothing exactly at the end or after a fault, and the reader stays as it is;
-- a field where it comes next, and the reader stands behind it and behind the bytes that it holds;
-- the fault of the place where no field comes next, and the reader stays there, broken.
abbrev pub NextField : Unread → Option (Result Field WireFault) → Unread → Type 0
NextField old None new = ((old.rest ≡ []) ⊎ (old.broken ≡ true)) × (new ≡ old)
NextField old (Some (Ok field)) new =
    (old.broken ≡ false) × (field_of old.at old.rest ≡ Ok (seen field, new.rest)) × (new.at + length new.rest ≡ old.at + length old.rest) × (new.broken ≡ false)
    × (field.body_at + inner_length (content_of field.body) ≤ new.at) × (new.at < 2 ^ 64)
NextField old (Some (Err fault)) new = (old.broken ≡ false) × (0 < length old.rest) × (field_of old.at old.rest ≡ Err fault) × (new ≡ record old { broken = true })
