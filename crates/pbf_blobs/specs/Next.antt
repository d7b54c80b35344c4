-- What stands at a place of a PBF file: the next blob, the end, or the first fault, in the order in which a
-- triple is read.
use Rattle.std.specs.Prelude.{◌≡◌, ℕ, ◌+◌, ◌==◌, nat_lt, if◌then◌else◌, List, [], ◌∷◌, length, take, drop, Option, Some, None, Result, Ok, Err}
use Rattle.std.specs.Int.{w32, from_be_bytes}
use Rattle.std.specs.Str.{is_utf8}
use Rattle.wire_read.specs.declared.fault.WireFault.{WireFault}
use Rattle.wire_read.specs.Varint.{Spelled, varint_of}
use Rattle.wire_read.specs.Fields.{WireField, fields_of}
use Rattle.pbf_blobs.specs.declared.blob.Blob.{Blob}
use Rattle.pbf_blobs.specs.declared.blob.Head.{Head}
use Rattle.pbf_blobs.specs.declared.fault.PbfFault.{PbfFault}
use Rattle.pbf_blobs.specs.declared.fault.PbfFault.TheVariants as faults
use Rattle.pbf_blobs.specs.Messages.{bytes_in, varints_in, last_of, first_between}
use Rattle.pbf_blobs.specs.Triple.{is_known}
use Rattle.pbf_blobs.specs.declared.limits.TheConstants.{HEADER_LIMIT, MOST_BLOB, MOST_INPUT}

-- the end of the input; or a blob; or the first fault
pub data Outcome : Type 0 where
  Ends : Outcome
  Gives : Blob → Outcome
  Fails : PbfFault → Outcome

-- ---- the header

-- the last type with its place and the last datasize of the header that begins at the place start
abbrev pub kind_and_size : ℕ → Option (ℕ × List ℕ) → Option ℕ → Result (List ℕ × ℕ) PbfFault
kind_and_size start None size = Err (faults.MissingField start 1)
kind_and_size start (Some kind) None = Err (faults.MissingField start 3)
kind_and_size start (Some kind) (Some size) = if is_utf8 kind.1 then Ok (kind.1, size) else Err (faults.BadType start)

abbrev pub header_by : ℕ → Result (List WireField) WireFault → Result (List ℕ × ℕ) PbfFault
header_by start (Ok fields) = kind_and_size start (last_of (bytes_in 1 fields)) (last_of (varints_in 3 fields))
header_by start (Err fault) = Err (faults.Wire fault)

-- the type and the datasize of these bytes, which begin at the place start, or their fault as a BlobHeader
unfoldable pub header_of : ℕ → List ℕ → Result (List ℕ × ℕ) PbfFault
header_of start bytes = header_by start (fields_of start bytes)

-- ---- the payload

-- the first field that holds a compressed payload and the last raw one of the Blob that begins at the place start
abbrev pub raw_payload : ℕ → Option WireField → Option (ℕ × List ℕ) → Result (ℕ × List ℕ) PbfFault
raw_payload start (Some compressed) raw = Err (faults.Compressed start compressed.number)
raw_payload start None None = Err (faults.NoPayload start)
raw_payload start None (Some raw) = Ok raw

abbrev pub payload_by : ℕ → Result (List WireField) WireFault → Result (ℕ × List ℕ) PbfFault
payload_by start (Ok fields) = raw_payload start (first_between 3 7 fields) (last_of (bytes_in 1 fields))
payload_by start (Err fault) = Err (faults.Wire fault)

-- the place and the bytes of the raw payload of these bytes, which begin at the place start, or their fault as a
-- Blob of a known type
unfoldable pub payload_of : ℕ → List ℕ → Result (ℕ × List ℕ) PbfFault
payload_of start bytes = payload_by start (fields_of start bytes)

-- ---- a triple, in the order in which it is read

-- the blob that has this raw payload at this place
abbrev pub blob_of : Head → ℕ × List ℕ → Blob
blob_of head raw = record {
  at = head.at;
  kind = head.kind;
  size = head.size;
  known = is_known head.kind;
  raw_at = raw.0;
  raw = raw.1;
  end = head.body_at + head.size;
}

-- the Blob is read
abbrev pub paid : Head → Result (ℕ × List ℕ) PbfFault → Outcome
paid head (Ok raw) = Gives (blob_of head raw)
paid head (Err fault) = Fails fault

-- the payload of a Blob of a known type; that of another type isn't looked at
abbrev pub raw_of : Head → List ℕ → Result (ℕ × List ℕ) PbfFault
raw_of head bytes = if is_known head.kind then payload_of head.body_at bytes else Ok (head.body_at, [])

-- the size is within the limits
abbrev pub bodied : Head → List ℕ → Outcome
bodied head rest =
    if nat_lt (length rest) head.size then Fails (faults.Truncated head.body_at)
    else paid head (raw_of head (take head.size rest))

-- the size is seen
abbrev pub sized : Head → List ℕ → Outcome
sized head rest =
    if nat_lt MOST_BLOB head.size then Fails (faults.BlobTooLong head.at head.size)
    else (if nat_lt MOST_INPUT (head.body_at + head.size) then Fails (faults.TooLarge (head.body_at + head.size))
    else bodied head rest)

-- the header is read
abbrev pub headed : ℕ → ℕ → Result (List ℕ × ℕ) PbfFault → List ℕ → Outcome
headed at body_at (Ok (kind, size)) rest = sized (record { at = at; body_at = body_at; kind = kind; size = size }) rest
headed at body_at (Err fault) rest = Fails fault

-- the length is within the limit
abbrev pub framed : ℕ → ℕ → List ℕ → Outcome
framed at len rest =
    if nat_lt (length rest) len then Fails (faults.Truncated (at + 4))
    else headed at (at + 4 + len) (header_of (at + 4) (take len rest)) (drop len rest)

-- the length is seen
abbrev pub measured : ℕ → ℕ → List ℕ → Outcome
measured at len rest = if nat_lt len HEADER_LIMIT then framed at len rest else Fails (faults.HeaderTooLong at len)

-- what stands at the place at, where these bytes are left
unfoldable pub next_of : ℕ → List ℕ → Outcome
next_of at rest =
    if length rest == 0 then Ends
    else if nat_lt (length rest) 4 then Fails (faults.Truncated at)
    else measured at (from_be_bytes w32 (take 4 rest)) (drop 4 rest)

-- ---- a Blob of a known type, read in two pieces

-- The front of a Blob, of which so many bytes are left, shows that the Blob is one field 1 and nothing more, whose
-- bytes begin with start: its tag, and a length that is that of start and all that is left.
pub record ShowsPayload (left : ℕ) (front start : List ℕ) : Type 0 where
  pub behind_tag : List ℕ
  pub tagged : front ≡ 10 ∷ behind_tag
  pub spells : varint_of behind_tag ≡ Spelled (length start + left) start
