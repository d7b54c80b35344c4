-- Each outcome is by its cause in the grammar, and each input has one.
use Rattle.std.proofs.Common.{◌≡◌, ℕ, ◌+◌, ◌^◌, ◌<◌, ◌≤◌, true, false, Bool, List, [], ◌++◌, length, take, drop, get_or, refl, sym, ap, ◌∙◌, subst, arith, Option, Some, None, ◌↔◌, inl, inr, length-append, append_assoc}
use Rattle.std.specs.Int.{w32, to_be_bytes, from_be_bytes}
use Rattle.std.specs.Str.{is_utf8}
use Rattle.std.proofs.lemmas.Str.{IsUtf8-from_is_utf8, is_utf8-from_IsUtf8}
use Rattle.std.proofs.lemmas.Bool.{cases_lt}
use Rattle.std.proofs.lemmas.Nat.{be_bytes_4}
use Rattle.std.proofs.lemmas.List.{take_at, drop_at, take-append-drop, length-take-le, nil_from_length, get_or_past}
use Rattle.std.proofs.lemmas.List.Elements.{All-take, All-drop}
use Rattle.wire_read.specs.Varint.{AreBytes}
use Rattle.wire_read.specs.Fields.{WireField, SpellsFields}
use Rattle.pbf_blobs.specs.declared.blob.Blob.{Blob}
use Rattle.pbf_blobs.specs.declared.fault.PbfFault.TheVariants as faults
use Rattle.pbf_blobs.specs.Messages.{bytes_in, varints_in, last_of, first_between}
use Rattle.pbf_blobs.specs.Triple.{is_known, IsHeader, IsRawBlob, IsBlob, IsTriple}
use Rattle.pbf_blobs.proofs.HeldFields.{last_bytes, last_varint, no_bytes, no_varint, none_between, first_is, known_type, known_so}
use Rattle.pbf_blobs.specs.Next.{Outcome, Ends, Gives, Fails, next_of}
use Rattle.pbf_blobs.specs.Means.{HasLength, HasHeader, HasSize, HasFittingSize, HasKnownBlob, Means}
use Rattle.pbf_blobs.proofs.Makes.{length-spelled, makes}
use Rattle.pbf_blobs.proofs.MessageReads.{message_reading, last_of-none}

-- ---- one of the causes stands

record Caused (at : ℕ) (rest : List ℕ) : Type 0 where
  outcome : Outcome
  means : Means at rest outcome

-- a part of bytes is bytes
AreBytes-part : (rest xs ys zs : List ℕ) → AreBytes rest → rest ≡ xs ++ ys ++ zs → AreBytes ys
AreBytes-part rest xs ys zs are e =
    let behind : drop (length xs) rest ≡ ys ++ zs = ap (drop (length xs)) (e ∙ append_assoc xs ys zs) ∙ drop_at xs (ys ++ zs) (length xs) refl in
    let part : take (length ys) (drop (length xs) rest) ≡ ys = ap (take (length ys)) behind ∙ take_at ys zs (length ys) refl in
    subst (λ (l : List ℕ). AreBytes l) part (All-take (λ b. b < 256) (length ys) (drop (length xs) rest) (All-drop (λ b. b < 256) (length xs) rest are))

-- each element of bytes is a byte, and what is past them is 0
byte-at : (bytes : List ℕ) → AreBytes bytes → (i : ℕ) → get_or bytes i 0 < 256
byte-at bytes are i =
    elim (cases_lt i (length bytes)) [
      | inl within ↦ are i 0 within
      | inr past ↦ let none : get_or bytes i 0 ≡ 0 = get_or_past bytes i 0 past in omega (arith, none)
    ]

-- a list of four or more bytes begins with a length
length-at : (rest : List ℕ) → AreBytes rest → 4 ≤ length rest → HasLength rest (from_be_bytes w32 (take 4 rest)) (drop 4 rest)
length-at rest are four =
    let front_are : AreBytes (take 4 rest) = All-take (λ b. b < 256) 4 rest are in
    let size : length (take 4 rest) ≡ 4 = length-take-le 4 rest four in
    let spelled : to_be_bytes w32 (from_be_bytes w32 (take 4 rest)) ≡ take 4 rest =
    be_bytes_4 (take 4 rest) (from_be_bytes w32 (take 4 rest)) size (byte-at (take 4 rest) front_are) refl in
    record {
      fits = below-2_32 (take 4 rest) front_are;
      parts = sym (ap (λ xs. xs ++ drop 4 rest) spelled ∙ take-append-drop 4 rest);
    }
  where
    below-2_32 : (bytes : List ℕ) → AreBytes bytes → from_be_bytes w32 bytes < 2 ^ 32
    below-2_32 bytes are = omega (arith, byte-at bytes are 0, byte-at bytes are 1, byte-at bytes are 2, byte-at bytes are 3)

-- ---- the Blob

-- a whole triple
triple_cause : (at : ℕ) (rest header kind body after : List ℕ) → HasFittingSize at rest header kind (length body) (body ++ after)
    → (known : Bool) (raw_at : ℕ) (raw : List ℕ) → is_known kind ≡ known → IsBlob known (at + 4 + length header) body raw_at raw → Caused at rest
triple_cause at rest header kind body after has known raw_at raw known_is is_blob =
    let spelled = to_be_bytes w32 (length header) in
    let triple = spelled ++ header ++ body in
    let count : length triple ≡ 4 + length header + length body =
    length-append (spelled ++ header) body ∙ ap (λ n. n + length body) (length-append spelled header ∙ ap (λ n. n + length header) (length-spelled (length header))) in
    let blob : Blob = record { at = at; kind = kind; size = length body; known = known; raw_at = raw_at; raw = raw; end = at + 4 + length header + length body } in
    let is : IsTriple at triple blob = record {
      header = header;
      body = body;
      parts = refl;
      short = has.has.has.short;
      is_header = has.has.is_header;
      size = refl;
      size_limit = has.size_limit;
      known = known_so kind known known_is;
      is_blob = is_blob;
      place = refl;
      end = omega (arith, count);
      end_limit = has.end_limit;
    } in
    record { outcome = Gives blob; means = record { triple = triple; after = after; is_triple = is; parts = has.has.has.parts ∙ sym (append_assoc (spelled ++ header) body after) } }

-- the Blob is a message, and has a payload, is compressed or has none
cause_of_payload : (at : ℕ) (rest header kind body after : List ℕ) → HasFittingSize at rest header kind (length body) (body ++ after) → is_known kind ≡ true
    → (fields : List WireField) → SpellsFields body (at + 4 + length header) fields
    → (compressed : Option WireField) → first_between 3 7 fields ≡ compressed → (raw : Option (ℕ × List ℕ)) → last_of (bytes_in 1 fields) ≡ raw → Caused at rest
cause_of_payload at rest header kind body after has known fields spells (Some compressed) first raw last =
    let there : HasKnownBlob at rest (at + 4 + length header) body = record { header = header; kind = kind; after = after; has = has; known = (known_type kind).0 known; start_is = refl } in
    record {
      outcome = Fails (faults.Compressed (at + 4 + length header) compressed.number);
      means = record { body = body; has = there; fields = fields; spells = spells; compressed = compressed; first = (first_is 3 7 fields compressed).0 first; number_is = refl };
    }
cause_of_payload at rest header kind body after has known fields spells None first None last =
    let there : HasKnownBlob at rest (at + 4 + length header) body = record { header = header; kind = kind; after = after; has = has; known = (known_type kind).0 known; start_is = refl } in
    record {
      outcome = Fails (faults.NoPayload (at + 4 + length header));
      means = record { body = body; has = there; fields = fields; spells = spells; not_compressed = (none_between 3 7 fields).0 first; no_raw = (no_bytes 1 fields).0 (last_of-none (bytes_in 1 fields) last) };
    }
cause_of_payload at rest header kind body after has known fields spells None first (Some raw) last =
    let is : IsRawBlob (at + 4 + length header) body raw.0 raw.1 = record { fields = fields; spells = spells; not_compressed = (none_between 3 7 fields).0 first; payload = (last_bytes 1 fields raw).0 last } in
    triple_cause at rest header kind body after has true raw.0 raw.1 known is

-- the Blob is whole, and of a type that is known or not
cause_of_body : (at : ℕ) (rest header kind body after : List ℕ) (known : Bool) → AreBytes rest → HasFittingSize at rest header kind (length body) (body ++ after) → is_known kind ≡ known → Caused at rest
cause_of_body at rest header kind body after false are has known =
    triple_cause at rest header kind body after has false (at + 4 + length header) [] known (refl, refl)
cause_of_body at rest header kind body after true are has known =
    elim (message_reading body (at + 4 + length header) body_are) [
      | inl read ↦ cause_of_payload at rest header kind body after has known read.0 read.1 (first_between 3 7 read.0) refl (last_of (bytes_in 1 read.0)) refl
      | inr broken ↦ record {
        outcome = Fails (faults.Wire broken.1);
        means = inr (record {
          start = at + 4 + length header;
          body = body;
          has = record { header = header; kind = kind; after = after; has = has; known = (known_type kind).0 known; start_is = refl };
          fields = broken.0;
          breaks = broken.2;
        });
      }
    ]
  where
    body_are : AreBytes body
    body_are = AreBytes-part rest (to_be_bytes w32 (length header) ++ header) body after are (has.has.has.parts ∙ sym (append_assoc (to_be_bytes w32 (length header) ++ header) body after))

-- ---- the size

-- the size is within the limits or not
cause_of_size : (at : ℕ) (rest header kind : List ℕ) (size : ℕ) (after : List ℕ) → AreBytes rest → HasSize at rest header kind size after → Caused at rest
cause_of_size at rest header kind size after are has =
    elim (cases_lt 33554496 size) [
      | inl long ↦ record { outcome = Fails (faults.BlobTooLong at size); means = (refl, record { header = header; kind = kind; after = after; has = has; long = long }) }
      | inr size_limit ↦
          elim (cases_lt 536870912 (at + 4 + length header + size)) [
            | inl far ↦ record {
              outcome = Fails (faults.TooLarge (at + 4 + length header + size));
              means = record { header = header; kind = kind; size = size; after = after; has = has; size_limit = size_limit; end_is = refl; far = far };
            }
            | inr end_limit ↦
                let fitting : HasFittingSize at rest header kind size after = record { has = has; size_limit = size_limit; end_limit = end_limit } in
                elim (cases_lt (length after) size) [
                  | inl ends ↦ record {
                    outcome = Fails (faults.Truncated (at + 4 + length header));
                    means = inr (inr (record { header = header; kind = kind; size = size; after = after; has = fitting; start_is = refl; ends = ends }));
                  }
                  | inr whole ↦
                      let size_is : size ≡ length (take size after) = sym (length-take-le size after whole) in
                      let split : after ≡ take size after ++ drop size after = sym (take-append-drop size after) in
                      cause_of_body at rest header kind (take size after) (drop size after) (is_known kind) are
                      (subst (λ (xs : List ℕ). HasFittingSize at rest header kind (length (take size after)) xs) split (subst (λ (n : ℕ). HasFittingSize at rest header kind n after) size_is fitting)) refl
                ]
          ]
    ]

-- ---- the header

-- the header has both fields, and its type is a text or none
cause_of_text : (at : ℕ) (rest header after : List ℕ) → AreBytes rest → HasHeader rest header after → (fields : List WireField) → SpellsFields header (at + 4) fields
    → (kind : ℕ × List ℕ) → last_of (bytes_in 1 fields) ≡ Some kind → (size : ℕ) → last_of (varints_in 3 fields) ≡ Some size → (text : Bool) → is_utf8 kind.1 ≡ text → Caused at rest
cause_of_text at rest header after are has fields spells kind is_kind size is_size true text =
    let is : IsHeader (at + 4) header kind.1 size = record { fields = fields; spells = spells; kind_at = kind.0; is_kind = (last_bytes 1 fields kind).0 is_kind; is_size = (last_varint 3 fields size).0 is_size; text = IsUtf8-from_is_utf8 kind.1 text } in
    cause_of_size at rest header kind.1 size after are (record { has = has; is_header = is })
cause_of_text at rest header after are has fields spells kind is_kind size is_size false text =
    record {
      outcome = Fails (faults.BadType (at + 4));
      means = (
        refl,
        record {
          header = header;
          fields = fields;
          has = record { after = after; has = has; spells = spells };
          kind_at = kind.0;
          kind = kind.1;
          size = size;
          is_kind = (last_bytes 1 fields kind).0 is_kind;
          is_size = (last_varint 3 fields size).0 is_size;
          no_text = λ is. differ (is_utf8 kind.1) text (is_utf8-from_IsUtf8 kind.1 is);
        },
      );
    }
  where
    differ : (b : Bool) → b ≡ false → b ≡ true → ⊥
    differ b p q = cc

some_none : {X : Type 0} (x : X) → Some x ≡ None → ⊥
some_none x e = cc

-- the header is a message, and has both fields or not
cause_of_fields : (at : ℕ) (rest header after : List ℕ) → AreBytes rest → HasHeader rest header after → (fields : List WireField) → SpellsFields header (at + 4) fields
    → (kind : Option (ℕ × List ℕ)) → last_of (bytes_in 1 fields) ≡ kind → (size : Option ℕ) → last_of (varints_in 3 fields) ≡ size → Caused at rest
cause_of_fields at rest header after are has fields spells None no_kind size is_size =
    record {
      outcome = Fails (faults.MissingField (at + 4) 1);
      means = (refl, record { header = header; fields = fields; has = record { after = after; has = has; spells = spells }; lacks = inl (refl, (no_bytes 1 fields).0 (last_of-none (bytes_in 1 fields) no_kind)) });
    }
cause_of_fields at rest header after are has fields spells (Some kind) is_kind None no_size =
    let some : bytes_in 1 fields ≡ [] → ⊥ = λ e. some_none kind (sym is_kind ∙ ap last_of e) in
    record {
      outcome = Fails (faults.MissingField (at + 4) 3);
      means = (refl, record { header = header; fields = fields; has = record { after = after; has = has; spells = spells }; lacks = inr (refl, λ none. some ((no_bytes 1 fields).1 none), (no_varint 3 fields).0 (last_of-none (varints_in 3 fields) no_size)) });
    }
cause_of_fields at rest header after are has fields spells (Some kind) is_kind (Some size) is_size =
    cause_of_text at rest header after are has fields spells kind is_kind size is_size (is_utf8 kind.1) refl

-- the header is there, and a message or none
cause_of_header : (at : ℕ) (rest header after : List ℕ) → AreBytes rest → HasHeader rest header after → Caused at rest
cause_of_header at rest header after are has =
    elim (message_reading header (at + 4) (AreBytes-part rest (to_be_bytes w32 (length header)) header after are has.parts)) [
      | inl read ↦ cause_of_fields at rest header after are has read.0 read.1 (last_of (bytes_in 1 read.0)) refl (last_of (varints_in 3 read.0)) refl
      | inr broken ↦ record { outcome = Fails (faults.Wire broken.1); means = inl (record { header = header; after = after; has = has; fields = broken.0; breaks = broken.2 }) }
    ]

-- the length is there, and small enough or not
cause_of_length : (at : ℕ) (rest : List ℕ) (len : ℕ) (after : List ℕ) → AreBytes rest → HasLength rest len after → Caused at rest
cause_of_length at rest len after are has =
    elim (cases_lt len 65536) [
      | inl short ↦
          elim (cases_lt (length after) len) [
            | inl ends ↦ record { outcome = Fails (faults.Truncated (at + 4)); means = inr (inl (refl, record { len = len; after = after; has = has; short = short; ends = ends })) }
            | inr whole ↦
                let len_is : length (take len after) ≡ len = length-take-le len after whole in
                let header : HasHeader rest (take len after) (drop len after) = record {
                  short = omega (arith, len_is, short);
                  parts = has.parts ∙ ap (λ n. to_be_bytes w32 n ++ after) (sym len_is) ∙ ap (λ xs. to_be_bytes w32 (length (take len after)) ++ xs) (sym (take-append-drop len after))
                      ∙ sym (append_assoc (to_be_bytes w32 (length (take len after))) (take len after) (drop len after));
                } in
                cause_of_header at rest (take len after) (drop len after) are header
          ]
      | inr long ↦ record { outcome = Fails (faults.HeaderTooLong at len); means = (refl, record { after = after; has = has; long = long }) }
    ]

cause_of : (at : ℕ) (rest : List ℕ) → AreBytes rest → Caused at rest
cause_of at rest are =
    elim (cases_lt 0 (length rest)) [
      | inl some ↦
          elim (cases_lt (length rest) 4) [
            | inl few ↦ record { outcome = Fails (faults.Truncated at); means = inl (refl, record { some = some; few = few }) }
            | inr four ↦ cause_of_length at rest (from_be_bytes w32 (take 4 rest)) (drop 4 rest) are (length-at rest are four)
          ]
      | inr none ↦ record { outcome = Ends; means = nil_from_length rest (omega arith) }
    ]

-- ---- the law

pub outcome_means : (at : ℕ) (rest : List ℕ) → AreBytes rest → (outcome : Outcome) → (next_of at rest ≡ outcome) ↔ Means at rest outcome
outcome_means at rest are outcome = (
  λ e.
      let cause = cause_of at rest are in
      let same : cause.outcome ≡ outcome = sym (makes at rest cause.outcome cause.means) ∙ e in
      subst (λ (o : Outcome). Means at rest o) same cause.means,
  λ means. makes at rest outcome means,
)
