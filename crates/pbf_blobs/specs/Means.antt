-- What stands at a place, in the words of the grammar: each outcome has its one cause.
use Rattle.std.specs.Prelude.{◌≡◌, ℕ, ◌+◌, ◌^◌, ◌<◌, ◌≤◌, ◌⊎◌, List, [], ◌++◌, length}
use Rattle.std.specs.Int.{w32, to_be_bytes}
use Rattle.std.specs.Str.{IsUtf8}
use Rattle.wire_read.specs.declared.fault.WireFault.{WireFault}
use Rattle.wire_read.specs.Fields.{WireField, SpellsFields, BreaksFields}
use Rattle.pbf_blobs.specs.declared.blob.Blob.{Blob}
use Rattle.pbf_blobs.specs.declared.fault.PbfFault.{PbfFault}
use Rattle.pbf_blobs.specs.declared.fault.PbfFault.TheVariants as faults
use Rattle.pbf_blobs.specs.Triple.{HoldsBytes, HoldsVarint, NoneHolds, IsLastHeld, NoneBetween, IsFirstBetween, IsKnownType, IsHeader, IsTriple}
use Rattle.pbf_blobs.specs.Next.{Outcome, Ends, Gives, Fails}
use Rattle.pbf_blobs.specs.declared.limits.TheConstants.{HEADER_LIMIT, MOST_BLOB, MOST_INPUT}

-- ---- how far a triple goes

-- a length, and what follows it
pub record HasLength (rest : List ℕ) (len : ℕ) (after : List ℕ) : Type 0 where
  pub fits : len < 2 ^ 32
  pub parts : rest ≡ to_be_bytes w32 len ++ after

-- a length below 65,536, a header of that length, and what follows them
pub record HasHeader (rest header after : List ℕ) : Type 0 where
  pub short : length header < HEADER_LIMIT
  pub parts : rest ≡ to_be_bytes w32 (length header) ++ header ++ after

-- a header that is a message of these fields
pub record HasFields (at : ℕ) (rest header : List ℕ) (fields : List WireField) : Type 0 where
  pub after : List ℕ
  pub has : HasHeader rest header after
  pub spells : SpellsFields header (at + 4) fields

-- a header with this type and this datasize, and what follows it
pub record HasSize (at : ℕ) (rest header kind : List ℕ) (size : ℕ) (after : List ℕ) : Type 0 where
  pub has : HasHeader rest header after
  pub is_header : IsHeader (at + 4) header kind size

-- the same, where the Blob has a size within the limits
pub record HasFittingSize (at : ℕ) (rest header kind : List ℕ) (size : ℕ) (after : List ℕ) : Type 0 where
  pub has : HasSize at rest header kind size after
  pub size_limit : size ≤ MOST_BLOB
  pub end_limit : at + 4 + length header + size ≤ MOST_INPUT

-- a whole Blob of a known type, which begins at the place start
pub record HasKnownBlob (at : ℕ) (rest : List ℕ) (start : ℕ) (body : List ℕ) : Type 0 where
  pub header : List ℕ
  pub kind : List ℕ
  pub after : List ℕ
  pub has : HasFittingSize at rest header kind (length body) (body ++ after)
  pub known : IsKnownType kind
  pub start_is : start ≡ at + 4 + length header

-- ---- the input ends inside

-- the length
pub record EndsInLength (rest : List ℕ) : Type 0 where
  pub some : 0 < length rest
  pub few : length rest < 4

-- the header
pub record EndsInHeader (rest : List ℕ) : Type 0 where
  pub len : ℕ
  pub after : List ℕ
  pub has : HasLength rest len after
  pub short : len < HEADER_LIMIT
  pub ends : length after < len

-- the Blob that begins at the place start
pub record EndsInBlob (at start : ℕ) (rest : List ℕ) : Type 0 where
  pub header : List ℕ
  pub kind : List ℕ
  pub size : ℕ
  pub after : List ℕ
  pub has : HasFittingSize at rest header kind size after
  pub start_is : start ≡ at + 4 + length header
  pub ends : length after < size

-- ---- the length and the header

-- the length is 65,536 or more
pub record HasLongLength (rest : List ℕ) (len : ℕ) : Type 0 where
  pub after : List ℕ
  pub has : HasLength rest len after
  pub long : HEADER_LIMIT ≤ len

-- the header's bytes spell no message
pub record HasBrokenHeader (at : ℕ) (rest : List ℕ) (fault : WireFault) : Type 0 where
  pub header : List ℕ
  pub after : List ℕ
  pub has : HasHeader rest header after
  pub fields : List WireField
  pub breaks : BreaksFields header (at + 4) fields fault

-- the header has no type; or a type and no datasize
pub record LacksField (at : ℕ) (rest : List ℕ) (number : ℕ) : Type 0 where
  pub header : List ℕ
  pub fields : List WireField
  pub has : HasFields at rest header fields
  pub lacks : ((number ≡ 1) × NoneHolds (HoldsBytes 1) fields) ⊎ ((number ≡ 3) × (NoneHolds (HoldsBytes 1) fields → ⊥) × NoneHolds (HoldsVarint 3) fields)

-- the header has both, and the type is no text
pub record HasBadType (at : ℕ) (rest : List ℕ) : Type 0 where
  pub header : List ℕ
  pub fields : List WireField
  pub has : HasFields at rest header fields
  pub kind_at : ℕ
  pub kind : List ℕ
  pub size : ℕ
  pub is_kind : IsLastHeld (HoldsBytes 1) fields (kind_at, kind)
  pub is_size : IsLastHeld (HoldsVarint 3) fields size
  pub no_text : IsUtf8 kind → ⊥

-- ---- the size

-- the Blob is too long
pub record HasLongBlob (at : ℕ) (rest : List ℕ) (size : ℕ) : Type 0 where
  pub header : List ℕ
  pub kind : List ℕ
  pub after : List ℕ
  pub has : HasSize at rest header kind size after
  pub long : MOST_BLOB < size

-- it isn't, and would end at a place that is past the largest input's end
pub record HasFarBlob (at : ℕ) (rest : List ℕ) (end : ℕ) : Type 0 where
  pub header : List ℕ
  pub kind : List ℕ
  pub size : ℕ
  pub after : List ℕ
  pub has : HasSize at rest header kind size after
  pub size_limit : size ≤ MOST_BLOB
  pub end_is : end ≡ at + 4 + length header + size
  pub far : MOST_INPUT < end

-- ---- the Blob

-- its bytes spell no message
pub record HasBrokenBlob (at : ℕ) (rest : List ℕ) (fault : WireFault) : Type 0 where
  pub start : ℕ
  pub body : List ℕ
  pub has : HasKnownBlob at rest start body
  pub fields : List WireField
  pub breaks : BreaksFields body start fields fault

-- it has a field that holds a compressed payload, and this is the number of the first of them
pub record HasCompressed (at start : ℕ) (rest : List ℕ) (number : ℕ) : Type 0 where
  pub body : List ℕ
  pub has : HasKnownBlob at rest start body
  pub fields : List WireField
  pub spells : SpellsFields body start fields
  pub compressed : WireField
  pub first : IsFirstBetween 3 7 fields compressed
  pub number_is : compressed.number ≡ number

-- it has neither such a field nor a raw payload
pub record LacksPayload (at start : ℕ) (rest : List ℕ) : Type 0 where
  pub body : List ℕ
  pub has : HasKnownBlob at rest start body
  pub fields : List WireField
  pub spells : SpellsFields body start fields
  pub not_compressed : NoneBetween 3 7 fields
  pub no_raw : NoneHolds (HoldsBytes 1) fields

-- ---- the outcomes

-- the bytes begin with a triple of this blob
pub record BeginsWithTriple (at : ℕ) (rest : List ℕ) (blob : Blob) : Type 0 where
  pub triple : List ℕ
  pub after : List ℕ
  pub is_triple : IsTriple at triple blob
  pub parts : rest ≡ triple ++ after

-- what a fault says of the bytes that are left at the place at; a fault of reading and want of memory say nothing
-- of bytes
abbrev pub MeansFault : ℕ → List ℕ → PbfFault → Type 0
MeansFault at rest faults.Read = ⊥
MeansFault at rest (faults.Truncated place) = ((place ≡ at) × EndsInLength rest) ⊎ (((place ≡ at + 4) × EndsInHeader rest) ⊎ EndsInBlob at place rest)
MeansFault at rest (faults.HeaderTooLong place len) = (place ≡ at) × HasLongLength rest len
MeansFault at rest (faults.BlobTooLong place len) = (place ≡ at) × HasLongBlob at rest len
MeansFault at rest (faults.Compressed place field) = HasCompressed at place rest field
MeansFault at rest (faults.Wire fault) = HasBrokenHeader at rest fault ⊎ HasBrokenBlob at rest fault
MeansFault at rest (faults.NoPayload place) = LacksPayload at place rest
MeansFault at rest (faults.TooLarge bytes) = HasFarBlob at rest bytes
MeansFault at rest faults.OutOfMemory = ⊥
MeansFault at rest (faults.MissingField place number) = (place ≡ at + 4) × LacksField at rest number
MeansFault at rest (faults.BadType place) = (place ≡ at + 4) × HasBadType at rest

-- what an outcome says of the bytes that are left at the place at
abbrev pub Means : ℕ → List ℕ → Outcome → Type 0
Means at rest Ends = rest ≡ []
Means at rest (Gives blob) = BeginsWithTriple at rest blob
Means at rest (Fails fault) = MeansFault at rest fault
