-- A loop over the fields of a message that keeps what counts of them.
use Rattle.std.proofs.Common.{Bor, ◌≡◌, ℕ, ◌+◌, ◌<◌, ◌≤◌, ◌^◌, arith, IfSome, subst, leb, cond, true, false, Bool, ◌&&◌, List, [], ◌∷◌, ◌++◌, length, Option, Some, None, Ok, Err, refl, sym, ap, ◌∙◌}
use Rattle.std.specs.Option.{option_map, option_or}
use Rattle.std.specs.List.{filter_map, last_or, cons_option}
use Rattle.std.proofs.lemmas.List.Elements.{filter_map-append}
use Rattle.std.proofs.lemmas.List.Folds.{find-append}
use Rattle.wire_read.specs.declared.fault.WireFault.{WireFault}
use Rattle.wire_read.specs.Numbers.{Unread}
use Rattle.wire_read.specs.Fields.{WireField, field_of, unbroken, fields_of, Listed}
use Rattle.wire_read.proofs.FieldsSoFar.{FieldsSoFar, FieldsSoFar-nothing, FieldsSoFar-more, FieldsSoFar-end, FieldsSoFar-fault}
use Rattle.pbf_blobs.specs.Messages.{field_bytes, field_varint, bytes_in, varints_in, last_of, first_between}
use Rattle.pbf_blobs.specs.Walk.{compressed_number, FindsHeader, FindsPayload}

-- ---- one field more

last_or-append : {A : Type 0} (o : Option A) (xs ys : List A) → last_or o (xs ++ ys) ≡ last_or (last_or o xs) ys
last_or-append o [] ys = refl
last_or-append o (x ∷ xs) ys = last_or-append (Some x) xs ys

-- the last that is kept of a longer list
last-kept : {X Y : Type 0} (keep : X → Option Y) (xs : List X) (x : X) → last_of (filter_map keep (xs ++ x ∷ [])) ≡ option_or (keep x) (last_of (filter_map keep xs))
last-kept {Y = Y} keep xs x =
    ap last_of (filter_map-append keep xs (x ∷ []))
    ∙ last_or-append None (filter_map keep xs) (filter_map keep (x ∷ []))
    ∙ one (keep x) (last_of (filter_map keep xs))
  where
    one : (kept before : Option Y) → last_or before (cons_option kept []) ≡ option_or kept before
    one None before = refl
    one (Some y) before = refl

-- the first compressed payload of a longer list
first-compressed : (fields : List WireField) (field : WireField) → option_map (λ f. f.number) (first_between 3 7 (fields ++ field ∷ [])) ≡ option_or (option_map (λ f. f.number) (first_between 3 7 fields)) (compressed_number field)
first-compressed fields field =
    ap (option_map (λ f. f.number)) (find-append (λ f. leb 3 f.number && leb f.number 7) fields (field ∷ []))
    ∙ either (first_between 3 7 fields) (leb 3 field.number && leb field.number 7)
  where
    either : (before : Option WireField) (b : Bool) → option_map (λ f. f.number) (option_or before (cond b (Some field) None)) ≡ option_or (option_map (λ f. f.number) before) (cond b (Some field.number) None)
    either (Some f) b = refl
    either None true = refl
    either None false = refl

-- ---- the end of a message, and its fault

fields_of-end : (bytes : List ℕ) (base : ℕ) (fields : List WireField) (left : Unread) → FieldsSoFar bytes base fields left → left.rest ≡ [] → fields_of base bytes ≡ Ok fields
fields_of-end bytes base fields left so_far empty =
    ap (λ (m : Listed WireField). unbroken m.items m.fault) (FieldsSoFar-end bytes base fields left so_far empty)

fields_of-fault : (bytes : List ℕ) (base : ℕ) (fields : List WireField) (left : Unread) (fault : WireFault) → FieldsSoFar bytes base fields left → 0 < length left.rest → field_of left.at left.rest ≡ Err fault → fields_of base bytes ≡ Err fault
fields_of-fault bytes base fields left fault so_far some e =
    ap (λ (m : Listed WireField). unbroken m.items m.fault) (FieldsSoFar-fault bytes base fields left fault so_far some e)

-- ---- a header

pub record HeaderSoFar (bytes : List ℕ) (base : ℕ) (left : Unread) (kind : Option (ℕ × List ℕ)) (size : Option ℕ) : Type 0 where
  pub fields : List WireField
  pub so_far : FieldsSoFar bytes base fields left
  pub kind_is : kind ≡ last_of (bytes_in 1 fields)
  pub size_is : size ≡ last_of (varints_in 3 fields)

pub HeaderSoFar-nothing : (bytes : List ℕ) (base : ℕ) → HeaderSoFar bytes base (record { rest = bytes; at = base; broken = false }) None None
HeaderSoFar-nothing bytes base = record { fields = []; so_far = FieldsSoFar-nothing bytes base; kind_is = refl; size_is = refl }

pub HeaderSoFar-more : (bytes : List ℕ) (base : ℕ) (old new : Unread) (kind new_kind : Option (ℕ × List ℕ)) (size new_size : Option ℕ) (field : WireField)
    → HeaderSoFar bytes base old kind size → field_of old.at old.rest ≡ Ok (field, new.rest) → new.at + length new.rest ≡ old.at + length old.rest → new.broken ≡ false
    → new_kind ≡ option_or (field_bytes 1 field) kind → new_size ≡ option_or (field_varint 3 field) size
    → HeaderSoFar bytes base new new_kind new_size
HeaderSoFar-more bytes base old new kind new_kind size new_size field before e places unbroken kind_is size_is = record {
  fields = before.fields ++ field ∷ [];
  so_far = FieldsSoFar-more bytes base before.fields old new field before.so_far e places unbroken;
  kind_is = kind_is ∙ ap (option_or (field_bytes 1 field)) before.kind_is ∙ sym (last-kept (field_bytes 1) before.fields field);
  size_is = size_is ∙ ap (option_or (field_varint 3 field)) before.size_is ∙ sym (last-kept (field_varint 3) before.fields field);
}

pub HeaderSoFar-end : (bytes : List ℕ) (base : ℕ) (left : Unread) (kind : Option (ℕ × List ℕ)) (size : Option ℕ) → HeaderSoFar bytes base left kind size → left.rest ≡ [] → FindsHeader base bytes kind size
HeaderSoFar-end bytes base left kind size all empty = record {
  fields = all.fields;
  reads = fields_of-end bytes base all.fields left all.so_far empty;
  kind_is = all.kind_is;
  size_is = all.size_is;
}

pub HeaderSoFar-fault : (bytes : List ℕ) (base : ℕ) (left : Unread) (kind : Option (ℕ × List ℕ)) (size : Option ℕ) (fault : WireFault) → HeaderSoFar bytes base left kind size → 0 < length left.rest → field_of left.at left.rest ≡ Err fault → fields_of base bytes ≡ Err fault
HeaderSoFar-fault bytes base left kind size fault all some e = fields_of-fault bytes base all.fields left fault all.so_far some e

-- ---- a Blob

pub record PayloadSoFar (bytes : List ℕ) (base : ℕ) (left : Unread) (compressed : Option ℕ) (raw : Option (ℕ × List ℕ)) : Type 0 where
  pub fields : List WireField
  pub so_far : FieldsSoFar bytes base fields left
  pub compressed_is : compressed ≡ option_map (λ field. field.number) (first_between 3 7 fields)
  pub raw_is : raw ≡ last_of (bytes_in 1 fields)

pub PayloadSoFar-nothing : (bytes : List ℕ) (base : ℕ) → PayloadSoFar bytes base (record { rest = bytes; at = base; broken = false }) None None
PayloadSoFar-nothing bytes base = record { fields = []; so_far = FieldsSoFar-nothing bytes base; compressed_is = refl; raw_is = refl }

pub PayloadSoFar-more : (bytes : List ℕ) (base : ℕ) (old new : Unread) (compressed new_compressed : Option ℕ) (raw new_raw : Option (ℕ × List ℕ)) (field : WireField)
    → PayloadSoFar bytes base old compressed raw → field_of old.at old.rest ≡ Ok (field, new.rest) → new.at + length new.rest ≡ old.at + length old.rest → new.broken ≡ false
    → new_compressed ≡ option_or compressed (compressed_number field) → new_raw ≡ option_or (field_bytes 1 field) raw
    → PayloadSoFar bytes base new new_compressed new_raw
PayloadSoFar-more bytes base old new compressed new_compressed raw new_raw field before e places unbroken compressed_is raw_is = record {
  fields = before.fields ++ field ∷ [];
  so_far = FieldsSoFar-more bytes base before.fields old new field before.so_far e places unbroken;
  compressed_is = compressed_is ∙ ap (λ c. option_or c (compressed_number field)) before.compressed_is ∙ sym (first-compressed before.fields field);
  raw_is = raw_is ∙ ap (option_or (field_bytes 1 field)) before.raw_is ∙ sym (last-kept (field_bytes 1) before.fields field);
}

pub PayloadSoFar-end : (bytes : List ℕ) (base : ℕ) (left : Unread) (compressed : Option ℕ) (raw : Option (ℕ × List ℕ)) → PayloadSoFar bytes base left compressed raw → left.rest ≡ [] → FindsPayload base bytes compressed raw
PayloadSoFar-end bytes base left compressed raw all empty = record {
  fields = all.fields;
  reads = fields_of-end bytes base all.fields left all.so_far empty;
  compressed_is = all.compressed_is;
  raw_is = all.raw_is;
}

pub PayloadSoFar-fault : (bytes : List ℕ) (base : ℕ) (left : Unread) (compressed : Option ℕ) (raw : Option (ℕ × List ℕ)) (fault : WireFault) → PayloadSoFar bytes base left compressed raw → 0 < length left.rest → field_of left.at left.rest ≡ Err fault → fields_of base bytes ≡ Err fault
PayloadSoFar-fault bytes base left compressed raw fault all some e = fields_of-fault bytes base all.fields left fault all.so_far some e

-- ---- slices, as these definitions see them

-- bytes with their place
abbrev pub placed : ℕ × Bor (List ℕ) → ℕ × List ℕ
placed bytes = (bytes.0, bytes.1.now)

pub or-placed : (found first before : Option (ℕ × Bor (List ℕ))) → found ≡ option_or first before → option_map placed found ≡ option_or (option_map placed first) (option_map placed before)
or-placed found first before e = ap (option_map placed) e ∙ each first before
  where
    each : (first before : Option (ℕ × Bor (List ℕ))) → option_map placed (option_or first before) ≡ option_or (option_map placed first) (option_map placed before)
    each None before = refl
    each (Some x) before = refl

-- one that stands for another
pub or-first : {X : Type 0} (found first before kept : Option X) → found ≡ option_or first before → first ≡ kept → found ≡ option_or kept before
or-first found first before kept e is = e ∙ ap (λ o. option_or o before) is

-- places and lengths that fit, where one stands for another
abbrev pub Inside : Option (ℕ × Bor (List ℕ)) → Type 0
Inside o = IfSome o (λ raw. raw.0 + length raw.1.now < 2 ^ 64)

pub or-inside : (found first before : Option (ℕ × Bor (List ℕ))) → found ≡ option_or first before → Inside first → Inside before → Inside found
or-inside found first before e h k = subst Inside (sym e) (each first before h k)
  where
    each : (first before : Option (ℕ × Bor (List ℕ))) → Inside first → Inside before → Inside (option_or first before)
    each None before h k = k
    each (Some x) before h k = h

-- the bytes are at most so many
abbrev pub AtMost : ℕ → Option (ℕ × Bor (List ℕ)) → Type 0
AtMost most o = IfSome o (λ raw. length raw.1.now ≤ most)

pub or-few : (found first before : Option (ℕ × Bor (List ℕ))) (most : ℕ) → found ≡ option_or first before → AtMost most first → AtMost most before → AtMost most found
or-few found first before most e h k = subst (AtMost most) (sym e) (each first before h k)
  where
    each : (first before : Option (ℕ × Bor (List ℕ))) → AtMost most first → AtMost most before → AtMost most (option_or first before)
    each None before h k = k
    each (Some x) before h k = h

pub held-few : (o : Option (ℕ × Bor (List ℕ))) (held most : ℕ) → AtMost held o → held ≤ most → AtMost most o
held-few None held most h few = tt
held-few (Some x) held most h few = omega (arith, h, few)
