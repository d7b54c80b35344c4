-- A Blob that is read in two pieces: a front, and what is left of it.
use Rattle.std.proofs.Common.{◌≡◌, ℕ, ◌+◌, ◌-◌, ◌<◌, ◌≤◌, ltb, cond, true, false, List, [], ◌∷◌, ◌++◌, length, take, sym, ap, ◌∙◌, arith, Ok, length-append}
use Rattle.std.proofs.lemmas.Bool.{lt-ltb}
use Rattle.std.proofs.lemmas.Bool.Decides.{nat_tests}
use Rattle.std.proofs.lemmas.List.{length-take-le, length-take}
use Rattle.std.proofs.Math.Seq.{take-append-add}
use Rattle.wire_read.specs.Varint.{Spelled, varint_of}
use Rattle.pbf_blobs.specs.declared.blob.Blob.{Blob}
use Rattle.pbf_blobs.specs.declared.blob.Head.{Head}
use Rattle.pbf_blobs.specs.declared.fault.PbfFault.TheVariants as faults
use Rattle.pbf_blobs.specs.Triple.{is_known}
use Rattle.pbf_blobs.specs.Next.{Gives, Fails, payload_of, paid, raw_of, bodied, ShowsPayload}
use Rattle.pbf_blobs.proofs.PlainFront.{varint_of-more, payload_of-plain}

-- the input ends inside it
pub bodied-cut : (head : Head) (rest : List ℕ) → length rest < head.size → bodied head rest ≡ Fails (faults.Truncated head.body_at)
bodied-cut head rest short = ap (λ b. cond b (Fails (faults.Truncated head.body_at)) (paid head (raw_of head (take head.size rest)))) (lt-ltb (length rest) head.size short)

pub bodied-whole : (head : Head) (rest : List ℕ) → head.size ≤ length rest → bodied head rest ≡ paid head (raw_of head (take head.size rest))
bodied-whole head rest whole =
    let no_cut : ltb (length rest) head.size ≡ false = grind (arith, nat_tests) in
    ap (λ b. cond b (Fails (faults.Truncated head.body_at)) (paid head (raw_of head (take head.size rest)))) no_cut

-- the payload of a known type
pub raw_of-known : (head : Head) (bytes : List ℕ) → is_known head.kind ≡ true → raw_of head bytes ≡ payload_of head.body_at bytes
raw_of-known head bytes known = ap (λ b. cond b (payload_of head.body_at bytes) (Ok (head.body_at, []))) known

-- a whole Blob of a known type, of which so many bytes are left behind a front
pub known_whole : (head : Head) (front rest : List ℕ) (left : ℕ) → is_known head.kind ≡ true → length front + left ≡ head.size → left ≤ length rest
    → bodied head (front ++ rest) ≡ paid head (payload_of head.body_at (front ++ take left rest))
known_whole head front rest left known size whole =
    bodied-whole head (front ++ rest) (omega (arith, length-append front rest))
    ∙ ap (paid head) (raw_of-known head (take head.size (front ++ rest)) known)
    ∙ ap (λ n. paid head (payload_of head.body_at (take n (front ++ rest)))) (sym size)
    ∙ ap (λ xs. paid head (payload_of head.body_at xs)) (take-append-add front rest left)

-- the blob of a known type that has this payload
abbrev pub known_blob : Head → ℕ × List ℕ → Blob
known_blob head raw = record {
  at = head.at;
  kind = head.kind;
  size = head.size;
  known = true;
  raw_at = raw.0;
  raw = raw.1;
  end = head.body_at + head.size;
}

pub blob_of-known : (head : Head) (raw : ℕ × List ℕ) → is_known head.kind ≡ true → paid head (Ok raw) ≡ Gives (known_blob head raw)
blob_of-known head raw known = ap (λ b. Gives (record (known_blob head raw) { known = b })) known

-- the payload that the front of a Blob shows, and what follows it
payload_of-shown : (start left : ℕ) (front begins more : List ℕ) → ShowsPayload left front begins → length more ≡ left → length begins + left ≤ length front + left
    → payload_of start (front ++ more) ≡ Ok (start + (length front + left) - length (begins ++ more), begins ++ more)
payload_of-shown start left front begins more shows size fits =
    let all = begins ++ more in
    let count : length begins + left ≡ length all = omega (arith, length-append begins more, size) in
    let spells : varint_of (shows.behind_tag ++ more) ≡ Spelled (length all) all =
    varint_of-more shows.behind_tag more (length begins + left) begins shows.spells ∙ ap (λ n. Spelled n all) count in
    let place : start + (length (10 ∷ (shows.behind_tag ++ more)) - 0 - length all) ≡ start + (length front + left) - length all =
    omega (arith, count, length-append shows.behind_tag more, ap length shows.tagged, size, fits) in
    ap (λ xs. payload_of start (xs ++ more)) shows.tagged
    ∙ payload_of-plain start (shows.behind_tag ++ more) all spells
    ∙ ap (λ n. Ok (n, all)) place

-- what was read behind the payload's start is all of the payload
pub bodied-payload : (head : Head) (front begins rest raw : List ℕ) (left : ℕ) → is_known head.kind ≡ true → length front + left ≡ head.size → ShowsPayload left front begins → length begins + left ≤ head.size
    → raw ≡ begins ++ take left rest → length begins + left ≤ length raw → bodied head (front ++ rest) ≡ Gives (known_blob head (head.body_at + head.size - length raw, raw))
bodied-payload head front begins rest raw left known size shows fits is whole =
    let there : left ≤ length rest = omega (arith, ap length is, length-append begins (take left rest), length-take left rest) in
    known_whole head front rest left known size there
    ∙ ap (paid head) (payload_of-shown head.body_at left front begins (take left rest) shows (length-take-le left rest there) (omega (arith, size, fits)))
    ∙ ap (λ n. paid head (Ok (head.body_at + n - length (begins ++ take left rest), begins ++ take left rest))) size
    ∙ ap (λ xs. paid head (Ok (head.body_at + head.size - length xs, xs))) (sym is)
    ∙ blob_of-known head (head.body_at + head.size - length raw, raw) known

-- or the input ended
pub bodied-front_cut : (head : Head) (front begins rest read : List ℕ) (left : ℕ) → length front + left ≡ head.size
    → read ≡ begins ++ take left rest → length read < length begins + left → bodied head (front ++ rest) ≡ Fails (faults.Truncated head.body_at)
bodied-front_cut head front begins rest read left size is cut =
    bodied-cut head (front ++ rest) (omega (arith, ap length is, length-append begins (take left rest), length-take left rest, length-append front rest))

-- the whole Blob was read
pub bodied-walked : (head : Head) (front rest body : List ℕ) (left : ℕ) → is_known head.kind ≡ true → length front + left ≡ head.size
    → body ≡ front ++ take left rest → length front + left ≤ length body → bodied head (front ++ rest) ≡ paid head (payload_of head.body_at body)
bodied-walked head front rest body left known size is whole =
    let there : left ≤ length rest = omega (arith, ap length is, length-append front (take left rest), length-take left rest) in
    known_whole head front rest left known size there
    ∙ ap (λ xs. paid head (payload_of head.body_at xs)) (sym is)

-- the same blob, by its payload's length
pub known_blob-by : (head : Head) (raw : List ℕ) (count : ℕ) (bytes : List ℕ) → count ≡ length raw → bytes ≡ raw
    → Gives (known_blob head (head.body_at + head.size - count, bytes)) ≡ Gives (known_blob head (head.body_at + head.size - length raw, raw))
known_blob-by head raw count bytes count_is bytes_is =
    ap (λ n. Gives (known_blob head (head.body_at + head.size - n, bytes))) count_is
    ∙ ap (λ xs. Gives (known_blob head (head.body_at + head.size - length raw, xs))) bytes_is
