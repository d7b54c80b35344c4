-- Header and Blob as messages: what the grammar says of them is computed, and each has a reading.
use Rattle.std.proofs.Common.{◌≡◌, ℕ, List, [], ◌∷◌, Some, None, Ok, Err, ap, ◌∙◌, sym, refl, ◌⊎◌}
use Rattle.std.specs.List.{last_or}
use Rattle.wire_read.specs.declared.fault.WireFault.{WireFault}
use Rattle.wire_read.specs.Varint.{AreBytes}
use Rattle.wire_read.specs.Fields.{WireField, SpellsFields, BreaksFields, Listed, unbroken, fields_of}
use Rattle.wire_read.proofs.MessageLaw.{message_of-spelled, message_of-broken, is_message_one_way}
use Rattle.pbf_blobs.specs.declared.fault.PbfFault.TheVariants as faults
use Rattle.pbf_blobs.specs.Messages.{bytes_in, varints_in, last_of, first_between}
use Rattle.pbf_blobs.specs.Triple.{IsHeader, IsRawBlob}
use Rattle.pbf_blobs.proofs.HeldFields.{last_bytes, last_varint, none_between}
use Rattle.pbf_blobs.specs.Next.{kind_and_size, header_by, header_of, raw_payload, payload_by, payload_of}
use Rattle.pbf_blobs.proofs.HeaderParts.{kind_and_size_text}

-- ---- any message

fields_of-spelled : (bytes : List ℕ) (start : ℕ) (fields : List WireField) → SpellsFields bytes start fields → fields_of start bytes ≡ Ok fields
fields_of-spelled bytes start fields spells = ap (λ (m : Listed WireField). unbroken m.items m.fault) (message_of-spelled bytes start fields spells)

fields_of-broken : (bytes : List ℕ) (start : ℕ) (fields : List WireField) (fault : WireFault) → BreaksFields bytes start fields fault → fields_of start bytes ≡ Err fault
fields_of-broken bytes start fields fault breaks = ap (λ (m : Listed WireField). unbroken m.items m.fault) (message_of-broken bytes start fields fault breaks)

-- bytes spell fields, or break behind some
pub message_reading : (bytes : List ℕ) (start : ℕ) → AreBytes bytes → ((fields : List WireField) × SpellsFields bytes start fields) ⊎ ((fields : List WireField) × (fault : WireFault) × BreaksFields bytes start fields fault)
message_reading bytes start are = (is_message_one_way bytes start are).some

-- a list has no last item exactly where it is empty
last_or-some : {A : Type 0} (item : A) (items : List A) → (last : A) × (last_or (Some item) items ≡ Some last)
last_or-some item [] = (item, refl)
last_or-some item (next ∷ items) = last_or-some next items

pub last_of-some : {A : Type 0} (items : List A) → (items ≡ [] → ⊥) → (last : A) × (last_of items ≡ Some last)
last_of-some [] some = absurd (some refl)
last_of-some (item ∷ items) some = last_or-some item items

pub last_of-none : {A : Type 0} (items : List A) → last_of items ≡ None → items ≡ []
last_of-none [] e = refl
last_of-none (item ∷ items) e =
    let last = last_or-some item items in
    let no : Some last.0 ≡ None = sym last.1 ∙ e in
    cc

-- ---- the header

pub header_of-fields : (start : ℕ) (header : List ℕ) (fields : List WireField) → SpellsFields header start fields → header_of start header ≡ kind_and_size start (last_of (bytes_in 1 fields)) (last_of (varints_in 3 fields))
unfolding header_of
header_of-fields start header fields spells = ap (header_by start) (fields_of-spelled header start fields spells)

pub header_of-broken : (start : ℕ) (header : List ℕ) (fields : List WireField) (fault : WireFault) → BreaksFields header start fields fault → header_of start header ≡ Err (faults.Wire fault)
unfolding header_of
header_of-broken start header fields fault breaks = ap (header_by start) (fields_of-broken header start fields fault breaks)

pub header_of-header : (start : ℕ) (header kind : List ℕ) (size : ℕ) → IsHeader start header kind size → header_of start header ≡ Ok (kind, size)
header_of-header start header kind size is =
    header_of-fields start header is.fields is.spells
    ∙ ap (λ k. kind_and_size start k (last_of (varints_in 3 is.fields))) ((last_bytes 1 is.fields (is.kind_at, kind)).1 is.is_kind)
    ∙ ap (kind_and_size start (Some (is.kind_at, kind))) ((last_varint 3 is.fields size).1 is.is_size)
    ∙ kind_and_size_text start (is.kind_at, kind) size is.text

-- ---- the payload

pub payload_of-fields : (start : ℕ) (blob : List ℕ) (fields : List WireField) → SpellsFields blob start fields → payload_of start blob ≡ raw_payload start (first_between 3 7 fields) (last_of (bytes_in 1 fields))
unfolding payload_of
payload_of-fields start blob fields spells = ap (payload_by start) (fields_of-spelled blob start fields spells)

pub payload_of-broken : (start : ℕ) (blob : List ℕ) (fields : List WireField) (fault : WireFault) → BreaksFields blob start fields fault → payload_of start blob ≡ Err (faults.Wire fault)
unfolding payload_of
payload_of-broken start blob fields fault breaks = ap (payload_by start) (fields_of-broken blob start fields fault breaks)

pub payload_of-raw : (start : ℕ) (blob : List ℕ) (raw_at : ℕ) (raw : List ℕ) → IsRawBlob start blob raw_at raw → payload_of start blob ≡ Ok (raw_at, raw)
payload_of-raw start blob raw_at raw is =
    payload_of-fields start blob is.fields is.spells
    ∙ ap (λ c. raw_payload start c (last_of (bytes_in 1 is.fields))) ((none_between 3 7 is.fields).1 is.not_compressed)
    ∙ ap (raw_payload start None) ((last_bytes 1 is.fields (raw_at, raw)).1 is.payload)
