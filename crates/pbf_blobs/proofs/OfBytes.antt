-- Each fault that is computed of bytes is one of the bytes: no fault of reading, and not want of memory.
use Rattle.std.proofs.Common.{◌≡◌, ℕ, ◌+◌, Bool, true, false, cond, List, [], ◌∷◌, length, drop, take, Option, Some, None, Result, Ok, Err, refl, subst}
use Rattle.std.specs.Prelude.{nat_lt, ◌==◌}
use Rattle.std.specs.Int.{w32, from_be_bytes}
use Rattle.std.specs.Str.{is_utf8}
use Rattle.wire_read.specs.declared.fault.WireFault.{WireFault}
use Rattle.wire_read.specs.Fields.{WireField, fields_of}
use Rattle.pbf_blobs.specs.declared.blob.Blob.{Blob}
use Rattle.pbf_blobs.specs.declared.blob.Head.{Head}
use Rattle.pbf_blobs.specs.declared.fault.PbfFault.{PbfFault}
use Rattle.pbf_blobs.specs.declared.fault.PbfFault.TheVariants as faults
use Rattle.pbf_blobs.specs.Messages.{bytes_in, varints_in, last_of, first_between}
use Rattle.pbf_blobs.specs.Triple.{is_known}
use Rattle.pbf_blobs.specs.Next.{Outcome, Ends, Gives, Fails, kind_and_size, header_by, header_of, raw_payload, payload_by, payload_of, paid, raw_of, bodied, sized, headed, framed, next_of}
use Rattle.pbf_blobs.specs.Frames.{Frames}
use Rattle.pbf_blobs.specs.Answers.{is_of_bytes}

-- a value, or a fault of the bytes
abbrev OfBytes : {A : Type 0} → Result A PbfFault → Type 0
OfBytes (Ok x) = Unit {0}
OfBytes (Err fault) = is_of_bytes fault ≡ true

-- one of two things, whichever it is
pub either : {A : Type 0} (P : A → Type 0) (b : Bool) (x y : A) → P x → P y → P (cond b x y)
either P true x y p q = p
either P false x y p q = q

abbrev Framing : Outcome → Type 0
Framing Ends = Unit {0}
Framing (Gives blob) = Unit {0}
Framing (Fails fault) = is_of_bytes fault ≡ true

kind_and_size-of : (start : ℕ) (kind : Option (ℕ × List ℕ)) (size : Option ℕ) → OfBytes (kind_and_size start kind size)
kind_and_size-of start None size = refl
kind_and_size-of start (Some kind) None = refl
kind_and_size-of start (Some kind) (Some size) = either OfBytes (is_utf8 kind.1) _ _ tt refl

header_by-of : (start : ℕ) (fields : Result (List WireField) WireFault) → OfBytes (header_by start fields)
header_by-of start (Ok fields) = kind_and_size-of start (last_of (bytes_in 1 fields)) (last_of (varints_in 3 fields))
header_by-of start (Err fault) = refl

header_of-of : (start : ℕ) (bytes : List ℕ) → OfBytes (header_of start bytes)
unfolding header_of
header_of-of start bytes = header_by-of start (fields_of start bytes)

raw_payload-of : (start : ℕ) (compressed : Option WireField) (raw : Option (ℕ × List ℕ)) → OfBytes (raw_payload start compressed raw)
raw_payload-of start (Some compressed) raw = refl
raw_payload-of start None None = refl
raw_payload-of start None (Some raw) = tt

payload_by-of : (start : ℕ) (fields : Result (List WireField) WireFault) → OfBytes (payload_by start fields)
payload_by-of start (Ok fields) = raw_payload-of start (first_between 3 7 fields) (last_of (bytes_in 1 fields))
payload_by-of start (Err fault) = refl

payload_of-of : (start : ℕ) (bytes : List ℕ) → OfBytes (payload_of start bytes)
unfolding payload_of
payload_of-of start bytes = payload_by-of start (fields_of start bytes)

raw_of-of : (head : Head) (bytes : List ℕ) → OfBytes (raw_of head bytes)
raw_of-of head bytes = either OfBytes (is_known head.kind) _ _ (payload_of-of head.body_at bytes) tt

paid-of : (head : Head) (raw : Result (ℕ × List ℕ) PbfFault) → OfBytes raw → Framing (paid head raw)
paid-of head (Ok raw) h = tt
paid-of head (Err fault) h = h

bodied-of : (head : Head) (rest : List ℕ) → Framing (bodied head rest)
bodied-of head rest = either Framing (nat_lt (length rest) head.size) _ _ refl (paid-of head (raw_of head (take head.size rest)) (raw_of-of head (take head.size rest)))

sized-of : (head : Head) (rest : List ℕ) → Framing (sized head rest)
sized-of head rest = either Framing (nat_lt 33554496 head.size) _ _ refl (either Framing (nat_lt 536870912 (head.body_at + head.size)) _ _ refl (bodied-of head rest))

headed-of : (at body_at : ℕ) (header : Result (List ℕ × ℕ) PbfFault) (rest : List ℕ) → OfBytes header → Framing (headed at body_at header rest)
headed-of at body_at (Ok (kind, size)) rest h = sized-of (record { at = at; body_at = body_at; kind = kind; size = size }) rest
headed-of at body_at (Err fault) rest h = h

framed-of : (at len : ℕ) (rest : List ℕ) → Framing (framed at len rest)
framed-of at len rest = either Framing (nat_lt (length rest) len) _ _ refl (headed-of at (at + 4 + len) (header_of (at + 4) (take len rest)) (drop len rest) (header_of-of (at + 4) (take len rest)))

next_of-of : (at : ℕ) (rest : List ℕ) → Framing (next_of at rest)
unfolding next_of
next_of-of at rest =
    let len = from_be_bytes w32 (take 4 rest) in
    either Framing (length rest == 0) Ends _ tt
    (either Framing (nat_lt (length rest) 4) (Fails (faults.Truncated at)) _ refl
    (either Framing (nat_lt len 65536) (framed at len (drop 4 rest)) (Fails (faults.HeaderTooLong at len)) (framed-of at len (drop 4 rest)) refl))

pub frames_of_bytes : (bytes : List ℕ) (at : ℕ) (blobs : List Blob) (fault : PbfFault) → Frames bytes at blobs (Fails fault) → is_of_bytes fault ≡ true
frames_of_bytes bytes at [] fault frames = subst Framing frames (next_of-of at (drop at bytes))
frames_of_bytes bytes at (blob ∷ blobs) fault frames = frames_of_bytes bytes blob.end blobs fault frames.1
