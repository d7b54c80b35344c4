-- Each list of bytes is read as one message: its fields, and the fault behind them.
use Rattle.std.proofs.Common.{◌≡◌, ℕ, ◌+◌, ◌*◌, ◌/◌, ◌%◌, ◌<◌, List, ◌++◌, length, Result, Ok, Err, refl, sym, ap, ◌∙◌, subst, arith, inl, inr, append_assoc, length-append, ◌-◌}
use Rattle.wire_read.specs.declared.fault.WireFault.{WireFault}
use Rattle.wire_read.specs.declared.fault.WireFault.TheVariants as faults
use Rattle.wire_read.specs.Varint.{IsVarint, AreBytes}
use Rattle.wire_read.specs.Fields.{Content, Varint, Fixed64, Bytes, Fixed32, WireField, IsKind, IsBody, IsField, Tagged, IsFieldNumber, IsGoodTag, HasFieldFault, ◌>>=◌, varint_at, number_at, body_of, body_offset, field_at, field_of}
use Rattle.wire_read.proofs.Groups.{varint_of-shorter}
use Rattle.wire_read.proofs.Grammar.{outcome_is_by_grammar}
use Rattle.wire_read.proofs.Packed.{AreBytes-rest}
use Rattle.wire_read.proofs.FieldParts.{bind_ok, bind_err, ok_is, ok_not_err, varint_at_ok, varint_at_err, varint_at-front, varint_at-cut, varint_at-endless, number_at_ok, number_at_err, number_at-good, number_at-bad_wire, number_at-bad_number, tag_kind, kind_below, body_found, body_of-front, Missing, body_missing, body_of-cut, body_of-endless, body_of-shorter}

-- ---- one field

-- what is left of a field behind its tag; the field and what follows it have so many bytes
abbrev untagged : ℕ → ℕ → ℕ × List ℕ → Result (WireField × List ℕ) WireFault
untagged at all tag = number_at at tag.0 >>= λ number. body_of at (tag.0 % 8) tag.1 >>= λ body. Ok (field_at at number (all - length tag.1) (all - length body.1) body.0, body.1)

abbrev numbered : ℕ → ℕ → ℕ × List ℕ → ℕ → Result (WireField × List ℕ) WireFault
numbered at all tag number = body_of at (tag.0 % 8) tag.1 >>= λ body. Ok (field_at at number (all - length tag.1) (all - length body.1) body.0, body.1)

abbrev made : ℕ → ℕ → ℕ → ℕ → Content × List ℕ → WireField × List ℕ
made at all number tag body = (field_at at number tag (all - length body.1) body.0, body.1)

-- the field at the front and what follows it
abbrev pub FieldAhead : ℕ → List ℕ → WireField × List ℕ → Type 0
FieldAhead at bytes x = (front : List ℕ) × IsField front x.0 × (x.0.at ≡ at) × (bytes ≡ front ++ x.1)

-- a tag and a body make a field
joined : (at : ℕ) (bytes tag rest body after : List ℕ) (n number : ℕ) (content : Content) → IsVarint tag n → IsFieldNumber number → n / 8 ≡ number → IsBody (n % 8) body content → bytes ≡ tag ++ rest → rest ≡ body ++ after
    → FieldAhead at bytes (made at (length bytes) number (length bytes - length rest) (content, after))
joined at bytes tag rest body after n number content spells good number_is is_body split split_rest =
    let whole_tag : n ≡ 8 * number + n % 8 = omega (arith, number_is) in
    let tag_length : length bytes - length rest ≡ length tag = omega (arith, length-append tag rest, ap length split) in
    let whole_length : length bytes - length after ≡ length (tag ++ body) =
    omega (arith, length-append tag rest, ap length split, length-append body after, ap length split_rest, length-append tag body) in
    let place : at + body_offset (length bytes - length rest) (length bytes - length after) content ≡ at + body_offset (length tag) (length (tag ++ body)) content =
    ap (λ k. at + body_offset k (length bytes - length after) content) tag_length
    ∙ ap (λ k. at + body_offset (length tag) k content) whole_length in
    let field : IsField (tag ++ body) (field_at at number (length bytes - length rest) (length bytes - length after) content) = record {
      tag = tag;
      body = body;
      kind = n % 8;
      parts = refl;
      spells_tag = subst (λ (k : ℕ). IsVarint tag k) whole_tag spells;
      least = good.0;
      greatest = good.1;
      is_body = is_body;
      body_place = place;
    } in
    (tag ++ body, field, refl, split ∙ ap (λ (p : List ℕ). tag ++ p) split_rest ∙ sym (append_assoc tag body after))

-- a field that is read is one by the grammar
pub field_found : (at : ℕ) (bytes : List ℕ) (x : WireField × List ℕ) → AreBytes bytes → field_of at bytes ≡ Ok x → FieldAhead at bytes x
unfolding field_of
field_found at bytes x are e =
    let all = length bytes in
    let t = bind_ok (varint_at at bytes) (untagged at all) x e in
    let n = bind_ok (number_at at t.0.0) (numbered at all t.0) x t.2 in
    let tag = all - length t.0.1 in
    let b = bind_ok (body_of at (t.0.0 % 8) t.0.1) (λ body. Ok (made at all n.0 tag body)) x n.2 in
    let spelled = (outcome_is_by_grammar bytes are).found t.0.0 t.0.1 (varint_at_ok at bytes t.0 t.1) in
    let good = number_at_ok at t.0.0 n.0 n.1 in
    let body = body_found at (t.0.0 % 8) t.0.1 b.0 (AreBytes-rest bytes spelled.0 t.0.1 are spelled.2) good.0 b.1 in
    subst (FieldAhead at bytes) (ok_is (made at all n.0 tag b.0) x b.2)
    (joined at bytes spelled.0 t.0.1 body.0 b.0.1 t.0.0 n.0 b.0.0 spelled.1 good.1 good.2 body.1 spelled.2 body.2)

-- the wire type of a body
body_kind : (kind : ℕ) (bytes : List ℕ) (content : Content) → IsBody kind bytes content → IsKind kind
body_kind kind bytes (Varint n) is = inl is.0
body_kind kind bytes (Fixed64 n) is = inr (inl is.0)
body_kind kind bytes (Bytes inner) is = inr (inr (inl is.0))
body_kind kind bytes (Fixed32 n) is = inr (inr (inr is.0))

-- a field by the grammar is read
pub field_of-front : (at : ℕ) (front rest : List ℕ) (field : WireField) → IsField front field → field.at ≡ at → field_of at (front ++ rest) ≡ Ok (field, rest)
unfolding field_of
field_of-front at front rest field is place =
    let kind = body_kind is.kind is.body field.content is.is_body in
    let below = kind_below is.kind kind in
    let tag = 8 * field.number + is.kind in
    let behind = is.body ++ rest in
    let all = length (front ++ rest) in
    let split : front ++ rest ≡ is.tag ++ (is.body ++ rest) = ap (λ (p : List ℕ). p ++ rest) is.parts ∙ append_assoc is.tag is.body rest in
    let tag_length : all - length behind ≡ length is.tag = omega (arith, ap length split, length-append is.tag behind) in
    let whole_length : all - length rest ≡ length front = omega (arith, length-append front rest) in
    let body_place : at + body_offset (all - length behind) (all - length rest) field.content ≡ field.body_at =
    ap (λ k. at + body_offset k (all - length rest) field.content) tag_length
    ∙ ap (λ k. at + body_offset (length is.tag) k field.content) whole_length
    ∙ ap (λ k. k + body_offset (length is.tag) (length front) field.content) (sym place)
    ∙ sym is.body_place in
    ap (λ p. varint_at at p >>= untagged at all) split
    ∙ ap (λ r. r >>= untagged at all) (varint_at-front at is.tag behind tag is.spells_tag)
    ∙ ap (λ r. r >>= numbered at all (tag, behind)) (number_at-good at field.number is.kind kind (is.least, is.greatest))
    ∙ ap (λ k. body_of at k behind >>= λ body. Ok (made at all field.number (all - length behind) body)) (tag_kind field.number is.kind below)
    ∙ ap (λ r. r >>= λ body. Ok (made at all field.number (all - length behind) body)) (body_of-front at is.kind is.body rest field.content is.is_body)
    ∙ ap (λ k. Ok (record { number = field.number; at = at; body_at = k; content = field.content }, rest)) body_place
    ∙ ap (λ k. Ok (record { number = field.number; at = k; body_at = field.body_at; content = field.content }, rest)) (sym place)

-- ---- a fault in place of a field

-- the tag that is read
abbrev tagged_by : (bytes tag body : List ℕ) (n number : ℕ) → IsVarint tag n → bytes ≡ tag ++ body → n / 8 ≡ number → Tagged bytes
tagged_by bytes tag body n number is split e = record {
  tag = tag;
  body = body;
  number = number;
  kind = n % 8;
  kind_fits = omega arith;
  parts = split;
  spells = subst (λ (k : ℕ). IsVarint tag k) (omega (arith, e)) is;
}

missing_fault : (bytes : List ℕ) (at : ℕ) (d : WireFault) (tagged : Tagged bytes) → 0 < length bytes → IsGoodTag bytes tagged → Missing at tagged.kind tagged.body d → HasFieldFault bytes at d
missing_fault bytes at d tagged some good (inl h) =
    subst (HasFieldFault bytes at) (sym h.0) (refl, some, inr (tagged, good, h.1))
missing_fault bytes at d tagged some good (inr h) =
    subst (HasFieldFault bytes at) (sym h.0) (refl, inr (tagged, good, h.1))

-- a fault that is answered is the one that the bytes have
pub fault_found : (at : ℕ) (bytes : List ℕ) (d : WireFault) → AreBytes bytes → 0 < length bytes → field_of at bytes ≡ Err d → HasFieldFault bytes at d
unfolding field_of
fault_found at bytes d are some e =
    elim (bind_err (varint_at at bytes) (untagged at (length bytes)) d e) [
      | inl h ↦ elim (varint_at_err at bytes d are h) [
        | inl cut ↦ subst (HasFieldFault bytes at) (sym cut.0) (refl, some, inl cut.1)
        | inr endless ↦ subst (HasFieldFault bytes at) (sym endless.0) (refl, inl endless.1)
      ]
      | inr t ↦
          let tag = t.0 in
          let spelled = (outcome_is_by_grammar bytes are).found tag.0 tag.1 (varint_at_ok at bytes tag t.1) in
          elim (bind_err (number_at at tag.0) (numbered at (length bytes) tag) d t.2) [
            | inl h ↦
                let tagged = tagged_by bytes spelled.0 tag.1 tag.0 (tag.0 / 8) spelled.1 spelled.2 refl in
                elim (number_at_err at tag.0 d h) [
                  | inl wire ↦ subst (HasFieldFault bytes at) (sym wire.0) (refl, (tagged, refl, wire.1))
                  | inr number ↦ subst (HasFieldFault bytes at) (sym number.0) (refl, (tagged, number.1, number.2))
                ]
            | inr n ↦
                let good = number_at_ok at tag.0 n.0 n.1 in
                elim (bind_err (body_of at (tag.0 % 8) tag.1) (λ body. Ok (made at (length bytes) n.0 (length bytes - length tag.1) body)) d n.2) [
                  | inl h ↦
                      let tagged = tagged_by bytes spelled.0 tag.1 tag.0 n.0 spelled.1 spelled.2 good.2 in
                      let missing = body_missing at (tag.0 % 8) tag.1 d (AreBytes-rest bytes spelled.0 tag.1 are spelled.2) good.0 h in
                      missing_fault bytes at d tagged some (good.0, good.1) missing
                  | inr b ↦ absurd (ok_not_err (made at (length bytes) n.0 (length bytes - length tag.1)) b.0 d b.2)
                ]
          ]
    ]

-- what follows the tag that the bytes have
field_of-tagged : (at : ℕ) (bytes : List ℕ) (tagged : Tagged bytes) → field_of at bytes ≡ untagged at (length bytes) (8 * tagged.number + tagged.kind, tagged.body)
unfolding field_of
field_of-tagged at bytes tagged =
    ap (λ p. varint_at at p >>= untagged at (length bytes)) tagged.parts
    ∙ ap (λ r. r >>= untagged at (length bytes)) (varint_at-front at tagged.tag tagged.body (8 * tagged.number + tagged.kind) tagged.spells)

-- the same, where number and wire type are good
field_of-good : (at : ℕ) (bytes : List ℕ) (tagged : Tagged bytes) → IsGoodTag bytes tagged → field_of at bytes ≡ (body_of at tagged.kind tagged.body >>= λ body. Ok (made at (length bytes) tagged.number (length bytes - length tagged.body) body))
field_of-good at bytes tagged good =
    field_of-tagged at bytes tagged
    ∙ ap (λ r. r >>= numbered at (length bytes) (8 * tagged.number + tagged.kind, tagged.body)) (number_at-good at tagged.number tagged.kind good.0 good.1)
    ∙ ap (λ k. body_of at k tagged.body >>= λ body. Ok (made at (length bytes) tagged.number (length bytes - length tagged.body) body)) (tag_kind tagged.number tagged.kind tagged.kind_fits)

-- a fault that the bytes have is answered
pub field_of-fault : (at : ℕ) (bytes : List ℕ) (d : WireFault) → HasFieldFault bytes at d → field_of at bytes ≡ Err d
unfolding field_of
field_of-fault at bytes (faults.Short place) (p, some, inl cut) =
    ap (λ r. r >>= untagged at (length bytes)) (varint_at-cut at bytes cut) ∙ ap (λ k. Err (faults.Short k)) (sym p)
field_of-fault at bytes (faults.Short place) (p, some, inr h) =
    field_of-good at bytes h.0 h.1
    ∙ ap (λ r. r >>= λ body. Ok (made at (length bytes) h.0.number (length bytes - length h.0.body) body)) (body_of-cut at h.0.kind h.0.body h.2)
    ∙ ap (λ k. Err (faults.Short k)) (sym p)
field_of-fault at bytes (faults.LongVarint place) (p, inl endless) =
    ap (λ r. r >>= untagged at (length bytes)) (varint_at-endless at bytes endless) ∙ ap (λ k. Err (faults.LongVarint k)) (sym p)
field_of-fault at bytes (faults.LongVarint place) (p, inr h) =
    field_of-good at bytes h.0 h.1
    ∙ ap (λ r. r >>= λ body. Ok (made at (length bytes) h.0.number (length bytes - length h.0.body) body)) (body_of-endless at h.0.kind h.0.body h.2)
    ∙ ap (λ k. Err (faults.LongVarint k)) (sym p)
field_of-fault at bytes (faults.BadWire place kind) (p, (tagged, same, never)) =
    let below : kind < 8 = subst (λ (k : ℕ). k < 8) same tagged.kind_fits in
    field_of-tagged at bytes tagged
    ∙ ap (λ k. untagged at (length bytes) (8 * tagged.number + k, tagged.body)) same
    ∙ ap (λ r. r >>= numbered at (length bytes) (8 * tagged.number + kind, tagged.body)) (number_at-bad_wire at tagged.number kind below never)
    ∙ ap (λ k. Err (faults.BadWire k kind)) (sym p)
field_of-fault at bytes (faults.BadNumber place) (p, (tagged, kind, never)) =
    field_of-tagged at bytes tagged
    ∙ ap (λ r. r >>= numbered at (length bytes) (8 * tagged.number + tagged.kind, tagged.body)) (number_at-bad_number at tagged.number tagged.kind kind never)
    ∙ ap (λ k. Err (faults.BadNumber k)) (sym p)

-- what follows a field is shorter than what begins with it
pub field_of-shorter : (at : ℕ) (bytes : List ℕ) (x : WireField × List ℕ) → field_of at bytes ≡ Ok x → length x.1 < length bytes
unfolding field_of
field_of-shorter at bytes x e =
    let all = length bytes in
    let t = bind_ok (varint_at at bytes) (untagged at all) x e in
    let n = bind_ok (number_at at t.0.0) (numbered at all t.0) x t.2 in
    let tag = all - length t.0.1 in
    let b = bind_ok (body_of at (t.0.0 % 8) t.0.1) (λ body. Ok (made at all n.0 tag body)) x n.2 in
    let good = number_at_ok at t.0.0 n.0 n.1 in
    let same = ap (λ (p : WireField × List ℕ). length p.1) (ok_is (made at all n.0 tag b.0) x b.2) in
    omega (arith, same, varint_of-shorter bytes t.0.0 t.0.1 (varint_at_ok at bytes t.0 t.1), body_of-shorter at (t.0.0 % 8) t.0.1 b.0 good.0 b.1)
