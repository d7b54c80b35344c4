-- The grammar of the triples that a PBF file is made of (fileformat.proto): a length, a BlobHeader of that
-- length, and a Blob of the size that the header gives. Header and Blob are messages. Their fields come in any
-- order; of one that comes more than once the last counts; other fields mean nothing, and neither does one with
-- another wire type.
use Rattle.std.specs.Prelude.{◌≡◌, ◌⊎◌, ◌↔◌, ℕ, ◌+◌, ◌<◌, ◌≤◌, Bool, true, false, ◌||◌, List, [], ◌∷◌, ◌++◌, length, codes}
use Rattle.std.specs.Int.{w32, to_be_bytes}
use Rattle.std.specs.Str.{IsUtf8, bytes_eq}
use Rattle.std.specs.List.{AllByRecursion}
use Rattle.wire_read.specs.Fields.{Content, Varint, Bytes, WireField, SpellsFields}
use Rattle.pbf_blobs.specs.declared.blob.Blob.{Blob}
use Rattle.pbf_blobs.specs.declared.limits.TheConstants.{HEADER_LIMIT, MOST_BLOB, MOST_INPUT}

-- ---- what a field holds

-- the field has this number and holds these bytes, the first of which stands at this place
abbrev pub HoldsBytes : ℕ → WireField → ℕ × List ℕ → Type 0
HoldsBytes number field (place, bytes) = (field.number ≡ number) × (field.body_at ≡ place) × (field.content ≡ Bytes bytes)

-- the field has this number and holds this varint
abbrev pub HoldsVarint : ℕ → WireField → ℕ → Type 0
HoldsVarint number field n = (field.number ≡ number) × (field.content ≡ Varint n)

-- none of the fields holds a value
abbrev pub NoneHolds : {A : Type 0} → (WireField → A → Type 0) → List WireField → Type 0
NoneHolds {A} Holds fields = AllByRecursion (λ (field : WireField). (value : A) → Holds field value → ⊥) fields

-- one of the fields holds this value, and none behind it holds any: the last one counts
pub record IsLastHeld {A : Type 0} (Holds : WireField → A → Type 0) (fields : List WireField) (value : A) : Type 0 where
  pub before : List WireField
  pub field : WireField
  pub after : List WireField
  pub parts : fields ≡ before ++ field ∷ after
  pub holds : Holds field value
  pub last : NoneHolds Holds after

-- the field's number is in this range
abbrev pub IsBetween : ℕ → ℕ → WireField → Type 0
IsBetween least most field = (least ≤ field.number) × (field.number ≤ most)

abbrev pub NoneBetween : ℕ → ℕ → List WireField → Type 0
NoneBetween least most fields = AllByRecursion (λ (field : WireField). IsBetween least most field → ⊥) fields

-- the first of the fields whose number is in this range
pub record IsFirstBetween (least most : ℕ) (fields : List WireField) (field : WireField) : Type 0 where
  pub before : List WireField
  pub after : List WireField
  pub parts : fields ≡ before ++ field ∷ after
  pub between : IsBetween least most field
  pub first : NoneBetween least most before

-- ---- a triple

-- the types of blobs whose payload is read
abbrev pub IsKnownType : List ℕ → Type 0
IsKnownType kind = (kind ≡ codes "OSMHeader") ⊎ (kind ≡ codes "OSMData")

-- the same, computed
abbrev pub is_known : List ℕ → Bool
is_known kind = bytes_eq kind (codes "OSMHeader") || bytes_eq kind (codes "OSMData")

-- The bytes are a BlobHeader that begins at the place start: field 1 is the type, which is a text, and field 3
-- the datasize.
pub record IsHeader (start : ℕ) (header kind : List ℕ) (size : ℕ) : Type 0 where
  pub fields : List WireField
  pub spells : SpellsFields header start fields
  pub kind_at : ℕ
  pub is_kind : IsLastHeld (HoldsBytes 1) fields (kind_at, kind)
  pub is_size : IsLastHeld (HoldsVarint 3) fields size
  pub text : IsUtf8 kind

-- The bytes are a Blob that begins at the place start and isn't compressed: it has none of the fields 3 to 7,
-- which hold compressed payloads. Field 1 is the raw payload, which begins at raw_at.
pub record IsRawBlob (start : ℕ) (bytes : List ℕ) (raw_at : ℕ) (raw : List ℕ) : Type 0 where
  pub fields : List WireField
  pub spells : SpellsFields bytes start fields
  pub not_compressed : NoneBetween 3 7 fields
  pub payload : IsLastHeld (HoldsBytes 1) fields (raw_at, raw)

-- A Blob of a known type that begins at the place start has a raw payload. The Blob of an unknown type isn't
-- looked at: no bytes, at its own start.
abbrev pub IsBlob : Bool → ℕ → List ℕ → ℕ → List ℕ → Type 0
IsBlob true start bytes raw_at raw = IsRawBlob start bytes raw_at raw
IsBlob false start bytes raw_at raw = (raw_at ≡ start) × (raw ≡ [])

-- The bytes are a triple that begins at the place at, and the blob is what it says.
pub record IsTriple (at : ℕ) (bytes : List ℕ) (blob : Blob) : Type 0 where
  pub header : List ℕ
  pub body : List ℕ
  pub parts : bytes ≡ to_be_bytes w32 (length header) ++ header ++ body
  pub short : length header < HEADER_LIMIT
  pub is_header : IsHeader (at + 4) header blob.kind blob.size
  pub size : length body ≡ blob.size
  pub size_limit : blob.size ≤ MOST_BLOB
  pub known : (blob.known ≡ true) ↔ IsKnownType blob.kind
  pub is_blob : IsBlob blob.known (at + 4 + length header) body blob.raw_at blob.raw
  pub place : blob.at ≡ at
  pub end : blob.end ≡ at + length bytes
  pub end_limit : blob.end ≤ MOST_INPUT

-- the bytes from the place at on are triples to their end, one after the other, and the blobs are theirs
abbrev pub AreTriples : ℕ → List ℕ → List Blob → Type 0
AreTriples at bytes [] = bytes ≡ []
AreTriples at bytes (blob ∷ blobs) =
    (triple rest : List ℕ) × IsTriple at triple blob × (bytes ≡ triple ++ rest) × AreTriples blob.end rest blobs
