-- Each cause in the grammar's words makes its outcome.
use Rattle.std.proofs.Common.{◌≡◌, ℕ, ◌+◌, ◌^◌, ◌<◌, ◌≤◌, ltb, cond, true, false, Bool, List, [], ◌++◌, length, take, drop, refl, sym, ap, ◌∙◌, subst, arith, Some, None, Result, Ok, Err, ◌⊎◌, inl, inr, length-append, append_assoc}
use Rattle.std.specs.Int.{w32, to_be_bytes, from_be_bytes}
use Rattle.std.proofs.lemmas.Bool.{lt-ltb}
use Rattle.std.proofs.lemmas.Bool.Decides.{nat_tests}
use Rattle.std.proofs.lemmas.Nat.{from_be_bytes-to_be_bytes_4}
use Rattle.std.proofs.lemmas.List.{take_at, drop_at}
use Rattle.pbf_blobs.specs.declared.blob.Blob.{Blob}
use Rattle.pbf_blobs.specs.declared.blob.Head.{Head}
use Rattle.pbf_blobs.specs.declared.fault.PbfFault.{PbfFault}
use Rattle.pbf_blobs.specs.declared.fault.PbfFault.TheVariants as faults
use Rattle.pbf_blobs.specs.Messages.{bytes_in, varints_in, last_of}
use Rattle.pbf_blobs.specs.Triple.{is_known, IsBlob, HoldsBytes, HoldsVarint, NoneHolds}
use Rattle.pbf_blobs.proofs.HeldFields.{last_bytes, last_varint, no_bytes, no_varint, none_between, first_is, known_type, known_same}
use Rattle.pbf_blobs.specs.Next.{Outcome, Ends, Gives, Fails, kind_and_size, header_of, raw_payload, payload_of, blob_of, paid, raw_of, bodied, sized, headed, framed, measured, next_of}
use Rattle.pbf_blobs.specs.Means.{HasLength, HasHeader, HasSize, HasFittingSize, HasKnownBlob, LacksField, HasBadType, HasCompressed, LacksPayload, BeginsWithTriple, MeansFault, Means}
use Rattle.pbf_blobs.proofs.Starts.{next_of-ends, next_of-cut, next_of-measured, measured-long, measured-framed}
use Rattle.pbf_blobs.proofs.Bodied.{bodied-cut, bodied-whole, raw_of-known}
use Rattle.pbf_blobs.proofs.HeaderParts.{kind_and_size_none}
use Rattle.pbf_blobs.proofs.MessageReads.{last_of-some, header_of-fields, header_of-broken, header_of-header, payload_of-fields, payload_of-broken, payload_of-raw}

-- ---- what the parts of a triple make of the outcome

pub length-spelled : (len : ℕ) → length (to_be_bytes w32 len) ≡ 4
length-spelled len = refl

-- behind a length
next_of-length : (at : ℕ) (rest : List ℕ) (len : ℕ) (after : List ℕ) → HasLength rest len after → next_of at rest ≡ measured at len after
next_of-length at rest len after has =
    let four : 4 ≤ length rest = omega (arith, ap length has.parts, length-append (to_be_bytes w32 len) after, length-spelled len) in
    next_of-measured at rest four
    ∙ ap (λ xs. measured at (from_be_bytes w32 xs) (drop 4 rest)) (ap (take 4) has.parts ∙ take_at (to_be_bytes w32 len) after 4 (length-spelled len))
    ∙ ap (λ n. measured at n (drop 4 rest)) (from_be_bytes-to_be_bytes_4 len has.fits)
    ∙ ap (measured at len) (ap (drop 4) has.parts ∙ drop_at (to_be_bytes w32 len) after 4 (length-spelled len))

-- the header is whole
framed-whole : (at : ℕ) (header after : List ℕ) → framed at (length header) (header ++ after) ≡ headed at (at + 4 + length header) (header_of (at + 4) header) after
framed-whole at header after =
    let there : ltb (length (header ++ after)) (length header) ≡ false = grind (arith, nat_tests, length-append header after) in
    ap (λ b. cond b (Fails (faults.Truncated (at + 4))) (headed at (at + 4 + length header) (header_of (at + 4) (take (length header) (header ++ after))) (drop (length header) (header ++ after)))) there
    ∙ ap (λ xs. headed at (at + 4 + length header) (header_of (at + 4) xs) (drop (length header) (header ++ after))) (take_at header after (length header) refl)
    ∙ ap (headed at (at + 4 + length header) (header_of (at + 4) header)) (drop_at header after (length header) refl)

framed-cut : (at len : ℕ) (after : List ℕ) → length after < len → framed at len after ≡ Fails (faults.Truncated (at + 4))
framed-cut at len after short = ap (λ b. cond b (Fails (faults.Truncated (at + 4))) (headed at (at + 4 + len) (header_of (at + 4) (take len after)) (drop len after))) (lt-ltb (length after) len short)

-- behind a header
next_of-header : (at : ℕ) (rest header after : List ℕ) → HasHeader rest header after → next_of at rest ≡ headed at (at + 4 + length header) (header_of (at + 4) header) after
next_of-header at rest header after has =
    let fits : length header < 2 ^ 32 = omega (arith, has.short) in
    next_of-length at rest (length header) (header ++ after) (record { fits = fits; parts = has.parts ∙ append_assoc (to_be_bytes w32 (length header)) header after })
    ∙ measured-framed at (length header) (header ++ after) has.short
    ∙ framed-whole at header after

-- the same, by what is found in it
next_of-found : (at : ℕ) (rest header after : List ℕ) (found : Result (List ℕ × ℕ) PbfFault) → HasHeader rest header after → header_of (at + 4) header ≡ found → next_of at rest ≡ headed at (at + 4 + length header) found after
next_of-found at rest header after found has e = next_of-header at rest header after has ∙ ap (λ f. headed at (at + 4 + length header) f after) e

-- what is known of a triple behind its header
abbrev pub head_of : ℕ → List ℕ → List ℕ → ℕ → Head
head_of at header kind size = record { at = at; body_at = at + 4 + length header; kind = kind; size = size }

next_of-size : (at : ℕ) (rest header kind : List ℕ) (size : ℕ) (after : List ℕ) → HasSize at rest header kind size after → next_of at rest ≡ sized (head_of at header kind size) after
next_of-size at rest header kind size after has =
    next_of-found at rest header after (Ok (kind, size)) has.has (header_of-header (at + 4) header kind size has.is_header)

sized-long : (head : Head) (after : List ℕ) → 33554496 < head.size → sized head after ≡ Fails (faults.BlobTooLong head.at head.size)
sized-long head after long =
    ap (λ b. cond b (Fails (faults.BlobTooLong head.at head.size)) (cond (ltb 536870912 (head.body_at + head.size)) (Fails (faults.TooLarge (head.body_at + head.size))) (bodied head after))) (lt-ltb 33554496 head.size long)

sized-limited : (head : Head) (after : List ℕ) → head.size ≤ 33554496 → sized head after ≡ cond (ltb 536870912 (head.body_at + head.size)) (Fails (faults.TooLarge (head.body_at + head.size))) (bodied head after)
sized-limited head after limit =
    let off : ltb 33554496 head.size ≡ false = grind (arith, nat_tests) in
    ap (λ b. cond b (Fails (faults.BlobTooLong head.at head.size)) (cond (ltb 536870912 (head.body_at + head.size)) (Fails (faults.TooLarge (head.body_at + head.size))) (bodied head after))) off

sized-far : (head : Head) (after : List ℕ) → head.size ≤ 33554496 → 536870912 < head.body_at + head.size → sized head after ≡ Fails (faults.TooLarge (head.body_at + head.size))
sized-far head after limit far =
    sized-limited head after limit
    ∙ ap (λ b. cond b (Fails (faults.TooLarge (head.body_at + head.size))) (bodied head after)) (lt-ltb 536870912 (head.body_at + head.size) far)

sized-within : (head : Head) (after : List ℕ) → head.size ≤ 33554496 → head.body_at + head.size ≤ 536870912 → sized head after ≡ bodied head after
sized-within head after limit end =
    let off : ltb 536870912 (head.body_at + head.size) ≡ false = grind (arith, nat_tests) in
    sized-limited head after limit
    ∙ ap (λ b. cond b (Fails (faults.TooLarge (head.body_at + head.size))) (bodied head after)) off

next_of-fitting : (at : ℕ) (rest header kind : List ℕ) (size : ℕ) (after : List ℕ) → HasFittingSize at rest header kind size after → next_of at rest ≡ bodied (head_of at header kind size) after
next_of-fitting at rest header kind size after has =
    next_of-size at rest header kind size after has.has
    ∙ sized-within (head_of at header kind size) after has.size_limit has.end_limit

-- the Blob is whole
bodied-there : (head : Head) (body after : List ℕ) → length body ≡ head.size → bodied head (body ++ after) ≡ paid head (raw_of head body)
bodied-there head body after size =
    bodied-whole head (body ++ after) (omega (arith, length-append body after))
    ∙ ap (λ xs. paid head (raw_of head xs)) (take_at body after head.size size)

-- and of a known type, and no payload is found
next_of-unpaid : (at : ℕ) (rest : List ℕ) (start : ℕ) (body : List ℕ) (fault : PbfFault) → HasKnownBlob at rest start body → payload_of start body ≡ Err fault → next_of at rest ≡ Fails fault
next_of-unpaid at rest start body fault has e =
    let head = head_of at has.header has.kind (length body) in
    next_of-fitting at rest has.header has.kind (length body) (body ++ has.after) has.has
    ∙ bodied-there head body has.after refl
    ∙ ap (paid head) (raw_of-known head body ((known_type has.kind).1 has.known) ∙ ap (λ n. payload_of n body) (sym has.start_is) ∙ e)

-- ---- each fault of the header

makes_lacks_field : (at : ℕ) (rest : List ℕ) (number : ℕ) → LacksField at rest number → next_of at rest ≡ Fails (faults.MissingField (at + 4) number)
makes_lacks_field at rest number lacks =
    next_of-found at rest lacks.header lacks.has.after (Err (faults.MissingField (at + 4) number)) lacks.has.has
    (header_of-fields (at + 4) lacks.header lacks.fields lacks.has.spells ∙ missing (said lacks.lacks))
  where
    said : ((number ≡ 1) × NoneHolds (HoldsBytes 1) lacks.fields) ⊎ ((number ≡ 3) × (NoneHolds (HoldsBytes 1) lacks.fields → ⊥) × NoneHolds (HoldsVarint 3) lacks.fields)
        → ((number ≡ 1) × (bytes_in 1 lacks.fields ≡ [])) ⊎ ((number ≡ 3) × (bytes_in 1 lacks.fields ≡ [] → ⊥) × (varints_in 3 lacks.fields ≡ []))
    said (inl (is, none)) = inl (is, (no_bytes 1 lacks.fields).1 none)
    said (inr (is, some, none)) = inr (is, λ e. some ((no_bytes 1 lacks.fields).0 e), (no_varint 3 lacks.fields).1 none)

    missing : ((number ≡ 1) × (bytes_in 1 lacks.fields ≡ [])) ⊎ ((number ≡ 3) × (bytes_in 1 lacks.fields ≡ [] → ⊥) × (varints_in 3 lacks.fields ≡ []))
        → kind_and_size (at + 4) (last_of (bytes_in 1 lacks.fields)) (last_of (varints_in 3 lacks.fields)) ≡ Err (faults.MissingField (at + 4) number)
    missing (inl (number_is, none)) =
        ap (λ xs. kind_and_size (at + 4) (last_of xs) (last_of (varints_in 3 lacks.fields))) none
        ∙ ap (λ n. Err (faults.MissingField (at + 4) n)) (sym number_is)
    missing (inr (number_is, some, none)) =
        let kind = last_of-some (bytes_in 1 lacks.fields) some in
        ap (λ k. kind_and_size (at + 4) k (last_of (varints_in 3 lacks.fields))) kind.1
        ∙ ap (λ xs. kind_and_size (at + 4) (Some kind.0) (last_of xs)) none
        ∙ ap (λ n. Err (faults.MissingField (at + 4) n)) (sym number_is)

makes_bad_type : (at : ℕ) (rest : List ℕ) → HasBadType at rest → next_of at rest ≡ Fails (faults.BadType (at + 4))
makes_bad_type at rest bad =
    next_of-found at rest bad.header bad.has.after (Err (faults.BadType (at + 4))) bad.has.has
    (header_of-fields (at + 4) bad.header bad.fields bad.has.spells
    ∙ ap (λ k. kind_and_size (at + 4) k (last_of (varints_in 3 bad.fields))) ((last_bytes 1 bad.fields (bad.kind_at, bad.kind)).1 bad.is_kind)
    ∙ ap (kind_and_size (at + 4) (Some (bad.kind_at, bad.kind))) ((last_varint 3 bad.fields bad.size).1 bad.is_size)
    ∙ kind_and_size_none (at + 4) (bad.kind_at, bad.kind) bad.size bad.no_text)

-- ---- each fault of the Blob

makes_compressed : (at : ℕ) (rest : List ℕ) (start number : ℕ) → HasCompressed at start rest number → next_of at rest ≡ Fails (faults.Compressed start number)
makes_compressed at rest start number has =
    next_of-unpaid at rest start has.body (faults.Compressed start number) has.has
    (payload_of-fields start has.body has.fields has.spells
    ∙ ap (λ c. raw_payload start c (last_of (bytes_in 1 has.fields))) ((first_is 3 7 has.fields has.compressed).1 has.first)
    ∙ ap (λ n. Err (faults.Compressed start n)) has.number_is)

makes_lacks_payload : (at : ℕ) (rest : List ℕ) (start : ℕ) → LacksPayload at start rest → next_of at rest ≡ Fails (faults.NoPayload start)
makes_lacks_payload at rest start lacks =
    next_of-unpaid at rest start lacks.body (faults.NoPayload start) lacks.has
    (payload_of-fields start lacks.body lacks.fields lacks.spells
    ∙ ap (λ c. raw_payload start c (last_of (bytes_in 1 lacks.fields))) ((none_between 3 7 lacks.fields).1 lacks.not_compressed)
    ∙ ap (λ xs. raw_payload start None (last_of xs)) ((no_bytes 1 lacks.fields).1 lacks.no_raw))

-- ---- a triple

-- two blobs with the same fields are one
same_blob : (a b : Blob) → a.at ≡ b.at → a.kind ≡ b.kind → a.size ≡ b.size → a.known ≡ b.known → a.raw_at ≡ b.raw_at → a.raw ≡ b.raw → a.end ≡ b.end → a ≡ b
same_blob a b at kind size known raw_at raw end =
    ap (λ x. record a { at = x }) at
    ∙ ap (λ x. record a { at = b.at; kind = x }) kind
    ∙ ap (λ x. record a { at = b.at; kind = b.kind; size = x }) size
    ∙ ap (λ x. record a { at = b.at; kind = b.kind; size = b.size; known = x }) known
    ∙ ap (λ x. record a { at = b.at; kind = b.kind; size = b.size; known = b.known; raw_at = x }) raw_at
    ∙ ap (λ x. record a { at = b.at; kind = b.kind; size = b.size; known = b.known; raw_at = b.raw_at; raw = x }) raw
    ∙ ap (λ x. record a { at = b.at; kind = b.kind; size = b.size; known = b.known; raw_at = b.raw_at; raw = b.raw; end = x }) end

-- a Blob's payload is the blob's
raw_of-blob : (head : Head) (body : List ℕ) (blob : Blob) (known : Bool) → is_known head.kind ≡ known → IsBlob known head.body_at body blob.raw_at blob.raw → raw_of head body ≡ Ok (blob.raw_at, blob.raw)
raw_of-blob head body blob true is raw =
    raw_of-known head body is ∙ payload_of-raw head.body_at body blob.raw_at blob.raw raw
raw_of-blob head body blob false is raw =
    ap (λ b. cond b (payload_of head.body_at body) (Ok (head.body_at, []))) is
    ∙ ap (λ n. Ok (n, [])) (sym raw.0)
    ∙ ap (λ xs. Ok (blob.raw_at, xs)) (sym raw.1)

paid-blob : (head : Head) (body : List ℕ) (blob : Blob) → is_known head.kind ≡ blob.known
    → head.at ≡ blob.at → head.kind ≡ blob.kind → head.size ≡ blob.size → head.body_at + head.size ≡ blob.end → IsBlob blob.known head.body_at body blob.raw_at blob.raw
    → paid head (raw_of head body) ≡ Gives blob
paid-blob head body blob known at kind size end raw =
    ap (paid head) (raw_of-blob head body blob blob.known known raw)
    ∙ ap Gives (same_blob (blob_of head (blob.raw_at, blob.raw)) blob at kind size known refl refl end)

makes_triple : (at : ℕ) (rest : List ℕ) (blob : Blob) → BeginsWithTriple at rest blob → next_of at rest ≡ Gives blob
makes_triple at rest blob begins =
    let t = begins.is_triple in
    let header = t.header in
    let spelled = to_be_bytes w32 (length header) in
    let count : length begins.triple ≡ 4 + length header + length t.body =
    ap length t.parts ∙ length-append (spelled ++ header) t.body ∙ ap (λ n. n + length t.body) (length-append spelled header ∙ ap (λ n. n + length header) (length-spelled (length header))) in
    let parts : rest ≡ spelled ++ header ++ (t.body ++ begins.after) = begins.parts ∙ ap (λ xs. xs ++ begins.after) t.parts ∙ append_assoc (spelled ++ header) t.body begins.after in
    let end : at + 4 + length header + blob.size ≡ blob.end = omega (arith, count, t.end, t.size) in
    let has : HasFittingSize at rest header blob.kind blob.size (t.body ++ begins.after) = record {
      has = record { has = record { short = t.short; parts = parts }; is_header = t.is_header };
      size_limit = t.size_limit;
      end_limit = omega (arith, end, t.end_limit);
    } in
    let head = head_of at header blob.kind blob.size in
    next_of-fitting at rest header blob.kind blob.size (t.body ++ begins.after) has
    ∙ bodied-there head t.body begins.after t.size
    ∙ paid-blob head t.body blob (known_same blob.kind blob.known t.known) (sym t.place) refl refl end t.is_blob

-- ---- each outcome is made by its cause

makes_fault : (at : ℕ) (rest : List ℕ) (fault : PbfFault) → MeansFault at rest fault → next_of at rest ≡ Fails fault
makes_fault at rest faults.Read never = absurd never
makes_fault at rest (faults.Truncated place) (inl (place_is, has)) = next_of-cut at rest has.some has.few ∙ ap (λ n. Fails (faults.Truncated n)) (sym place_is)
makes_fault at rest (faults.Truncated place) (inr (inl (place_is, has))) =
    next_of-length at rest has.len has.after has.has ∙ measured-framed at has.len has.after has.short ∙ framed-cut at has.len has.after has.ends ∙ ap (λ n. Fails (faults.Truncated n)) (sym place_is)
makes_fault at rest (faults.Truncated place) (inr (inr has)) =
    next_of-fitting at rest has.header has.kind has.size has.after has.has ∙ bodied-cut (head_of at has.header has.kind has.size) has.after has.ends ∙ ap (λ n. Fails (faults.Truncated n)) (sym has.start_is)
makes_fault at rest (faults.HeaderTooLong place len) (place_is, has) =
    next_of-length at rest len has.after has.has ∙ measured-long at len has.after has.long ∙ ap (λ n. Fails (faults.HeaderTooLong n len)) (sym place_is)
makes_fault at rest (faults.BlobTooLong place len) (place_is, has) =
    next_of-size at rest has.header has.kind len has.after has.has ∙ sized-long (head_of at has.header has.kind len) has.after has.long ∙ ap (λ n. Fails (faults.BlobTooLong n len)) (sym place_is)
makes_fault at rest (faults.Compressed place field) has = makes_compressed at rest place field has
makes_fault at rest (faults.Wire fault) (inl has) =
    next_of-found at rest has.header has.after (Err (faults.Wire fault)) has.has (header_of-broken (at + 4) has.header has.fields fault has.breaks)
makes_fault at rest (faults.Wire fault) (inr has) =
    next_of-unpaid at rest has.start has.body (faults.Wire fault) has.has (payload_of-broken has.start has.body has.fields fault has.breaks)
makes_fault at rest (faults.NoPayload place) has = makes_lacks_payload at rest place has
makes_fault at rest (faults.TooLarge bytes) has =
    next_of-size at rest has.header has.kind has.size has.after has.has
    ∙ sized-far (head_of at has.header has.kind has.size) has.after has.size_limit (subst (λ (n : ℕ). 536870912 < n) has.end_is has.far)
    ∙ ap (λ n. Fails (faults.TooLarge n)) (sym has.end_is)
makes_fault at rest faults.OutOfMemory never = absurd never
makes_fault at rest (faults.MissingField place number) (place_is, has) = makes_lacks_field at rest number has ∙ ap (λ n. Fails (faults.MissingField n number)) (sym place_is)
makes_fault at rest (faults.BadType place) (place_is, has) = makes_bad_type at rest has ∙ ap (λ n. Fails (faults.BadType n)) (sym place_is)

pub makes : (at : ℕ) (rest : List ℕ) (outcome : Outcome) → Means at rest outcome → next_of at rest ≡ outcome
makes at rest Ends means = next_of-ends at rest (ap length means)
makes at rest (Gives blob) means = makes_triple at rest blob means
makes at rest (Fails fault) means = makes_fault at rest fault means
