-- A Blob that is its payload's field and nothing more: its front shows the payload.
use Rattle.std.proofs.Common.{◌≡◌, ℕ, zero, suc, ◌+◌, ◌-◌, ◌%◌, ltb, cond, false, List, [], ◌∷◌, ◌++◌, length, take, drop, refl, sym, ap, ◌∙◌, subst, arith, Result, Ok, Err, inl, inr}
use Rattle.std.proofs.lemmas.Bool.{cases_lt}
use Rattle.std.proofs.lemmas.Bool.Decides.{nat_tests}
use Rattle.std.proofs.lemmas.List.{take_all, drop_all}
use Rattle.wire_read.specs.declared.fault.WireFault.{WireFault}
use Rattle.wire_read.specs.declared.fault.WireFault.TheVariants as faults
use Rattle.wire_read.specs.Varint.{VarintOutcome, Spelled, Short, Long, after_group, groups_within, modulo_2_64, varint_of}
use Rattle.wire_read.specs.Fields.{Content, Bytes, WireField, ◌>>=◌, varint_read, varint_at, part_at, number_at, bytes_body, body_of, field_at, field_of, Listed, with_item, unbroken}
use Rattle.wire_read.proofs.Groups.{groups_within-last, groups_within-on}
use Rattle.wire_read.proofs.Lists.{message_of-nil, message_of-field}
use Rattle.pbf_blobs.specs.Next.{payload_by, payload_of}

-- ---- a varint in the front of a list is one of the whole list

-- an outcome with more bytes behind it
abbrev and_more : List ℕ → VarintOutcome → VarintOutcome
and_more more (Spelled n rest) = Spelled n (rest ++ more)
and_more more Short = Short
and_more more Long = Long

-- where the outcome isn't Short, more bytes change nothing
abbrev Settled : VarintOutcome → Type 0
Settled (Spelled n rest) = Unit {0}
Settled Short = ⊥
Settled Long = Unit {0}

after_group-and_more : (low : ℕ) (more : List ℕ) (outcome : VarintOutcome) → after_group low (and_more more outcome) ≡ and_more more (after_group low outcome)
after_group-and_more low more (Spelled n rest) = refl
after_group-and_more low more Short = refl
after_group-and_more low more Long = refl

settled-after : (low : ℕ) (outcome : VarintOutcome) → Settled (after_group low outcome) → Settled outcome
settled-after low (Spelled n rest) s = tt
settled-after low Short s = s
settled-after low Long s = tt

groups_within-more : (room : ℕ) (bytes more : List ℕ) → Settled (groups_within room bytes) → groups_within room (bytes ++ more) ≡ and_more more (groups_within room bytes)
groups_within-more zero bytes more s = refl
groups_within-more (suc room) [] more s = absurd s
groups_within-more (suc room) (b ∷ bytes) more s =
    elim (cases_lt b 128) [
      | inl last ↦ groups_within-last room b (bytes ++ more) last ∙ sym (ap (and_more more) (groups_within-last room b bytes last))
      | inr on ↦
          let here : groups_within (suc room) (b ∷ bytes) ≡ after_group (b % 128) (groups_within room bytes) = groups_within-on room b bytes on in
          let inner : Settled (groups_within room bytes) = settled-after (b % 128) (groups_within room bytes) (subst (λ (o : VarintOutcome). Settled o) here s) in
          groups_within-on room b (bytes ++ more) on
          ∙ ap (after_group (b % 128)) (groups_within-more room bytes more inner)
          ∙ after_group-and_more (b % 128) more (groups_within room bytes)
          ∙ sym (ap (and_more more) here)
    ]

settled-spelled : (outcome : VarintOutcome) (n : ℕ) (rest : List ℕ) → modulo_2_64 outcome ≡ Spelled n rest → Settled outcome
settled-spelled (Spelled m others) n rest e = tt
settled-spelled Short n rest e = cc
settled-spelled Long n rest e = tt

modulo-and_more : (more : List ℕ) (outcome : VarintOutcome) → modulo_2_64 (and_more more outcome) ≡ and_more more (modulo_2_64 outcome)
modulo-and_more more (Spelled n rest) = refl
modulo-and_more more Short = refl
modulo-and_more more Long = refl

pub varint_of-more : (bytes more : List ℕ) (n : ℕ) (rest : List ℕ) → varint_of bytes ≡ Spelled n rest → varint_of (bytes ++ more) ≡ Spelled n (rest ++ more)
unfolding varint_of
varint_of-more bytes more n rest e =
    ap modulo_2_64 (groups_within-more 10 bytes more (settled-spelled (groups_within 10 bytes) n rest e))
    ∙ modulo-and_more more (groups_within 10 bytes)
    ∙ ap (and_more more) e

-- ---- one field 1 that is all of the bytes

-- the one field of such a Blob
abbrev payload_field : ℕ → List ℕ → List ℕ → WireField
payload_field start behind_tag raw = field_at start 1 1 (length (10 ∷ behind_tag)) (Bytes raw)

part_at-all : (at : ℕ) (bytes : List ℕ) → part_at at (length bytes) bytes ≡ Ok (bytes, [])
unfolding part_at
part_at-all at bytes =
    let fits : ltb (length bytes) (length bytes) ≡ false = grind (arith, nat_tests) in
    ap (λ b. cond b (Err (faults.Short at)) (Ok (take (length bytes) bytes, drop (length bytes) bytes))) fits
    ∙ ap (λ xs. Ok (xs, drop (length bytes) bytes)) (take_all (length bytes) bytes (omega arith))
    ∙ ap (λ xs. Ok (bytes, xs)) (drop_all (length bytes) bytes (omega arith))

tag-read : (at : ℕ) (behind_tag : List ℕ) → varint_at at (10 ∷ behind_tag) ≡ Ok (10, behind_tag)
unfolding varint_of
tag-read at behind_tag = refl

number-read : (at : ℕ) → number_at at 10 ≡ Ok 1
unfolding number_at
number-read at = refl

body-read : (at : ℕ) (behind_tag raw : List ℕ) → varint_of behind_tag ≡ Spelled (length raw) raw → bytes_body at behind_tag ≡ Ok (Bytes raw, [])
unfolding bytes_body
body-read at behind_tag raw e =
    ap (λ r. varint_read at r >>= λ n. part_at at n.0 n.1 >>= λ part. Ok (Bytes part.0, part.1)) e
    ∙ ap (λ r. r >>= λ part. Ok (Bytes part.0, part.1)) (part_at-all at raw)

body-read_kind : (at : ℕ) (behind_tag raw : List ℕ) → varint_of behind_tag ≡ Spelled (length raw) raw → body_of at 2 behind_tag ≡ Ok (Bytes raw, [])
unfolding body_of
body-read_kind at behind_tag raw e = body-read at behind_tag raw e

-- what is left of a field behind its tag, and behind its number
abbrev untagged : ℕ → ℕ → ℕ × List ℕ → Result (WireField × List ℕ) WireFault
untagged at count tag = number_at at tag.0 >>= λ number. body_of at (tag.0 % 8) tag.1 >>= λ body. Ok (field_at at number (count - length tag.1) (count - length body.1) body.0, body.1)

abbrev numbered : ℕ → ℕ → ℕ → Content × List ℕ → Result (WireField × List ℕ) WireFault
numbered at count tag body = Ok (field_at at 1 tag (count - length body.1) body.0, body.1)

field-read : (at : ℕ) (behind_tag raw : List ℕ) → varint_of behind_tag ≡ Spelled (length raw) raw
    → field_of at (10 ∷ behind_tag) ≡ Ok (field_at at 1 (length (10 ∷ behind_tag) - length behind_tag) (length (10 ∷ behind_tag) - 0) (Bytes raw), [])
unfolding field_of
field-read at behind_tag raw e =
    let count = length (10 ∷ behind_tag) in
    ap (λ r. r >>= untagged at count) (tag-read at behind_tag)
    ∙ ap (λ r. r >>= λ number. body_of at 2 behind_tag >>= λ body. Ok (field_at at number (count - length behind_tag) (count - length body.1) body.0, body.1)) (number-read at)
    ∙ ap (λ r. r >>= numbered at count (count - length behind_tag)) (body-read_kind at behind_tag raw e)

-- the payload of such a Blob is all that follows its length
pub payload_of-plain : (start : ℕ) (behind_tag raw : List ℕ) → varint_of behind_tag ≡ Spelled (length raw) raw
    → payload_of start (10 ∷ behind_tag) ≡ Ok (start + (length (10 ∷ behind_tag) - 0 - length raw), raw)
unfolding payload_of
payload_of-plain start behind_tag raw e =
    ap (λ (m : Listed WireField). payload_by start (unbroken m.items m.fault))
    (message_of-field start (start + length (10 ∷ behind_tag)) (10 ∷ behind_tag) _ (field-read start behind_tag raw e) (omega arith)
    ∙ ap (with_item _) (message_of-nil (start + length (10 ∷ behind_tag))))
