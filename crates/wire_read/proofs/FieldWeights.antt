-- A field, and a number among packed ones, is no more than the bytes that spell it.
use Rattle.std.proofs.Common.{◌≡◌, ℕ, zero, suc, ◌+◌, ◌-◌, ◌%◌, ◌<◌, ◌≤◌, List, [], ◌∷◌, length, Result, Ok, Err, refl, sym, ap, ◌∙◌, arith, inl, inr, length-append}
use Rattle.std.specs.List.{sum_by}
use Rattle.std.specs.Int.{w32, w64, from_le_bytes}
use Rattle.std.proofs.lemmas.List.Sums.{sum_by-cons}
use Rattle.wire_read.specs.declared.fault.WireFault.{WireFault}
use Rattle.wire_read.specs.Fields.{◌>>=◌, Content, Varint, Fixed64, Bytes, Fixed32, WireField, inner_length, IsKind, field_at, varint_at, part_at, number_at, varint_body, fixed64_body, bytes_body, fixed32_body, body_of, field_of, Listed, after_item, listed_within, message_of, packed_of}
use Rattle.wire_read.proofs.FieldParts.{bind_ok, ok_is, varint_at_ok, part_at_ok, number_at_ok}
use Rattle.wire_read.proofs.Groups.{varint_of-shorter}

-- ---- items that weigh no more than the bytes that spell them

abbrev pub Weighs : {A : Type 0} → (A → ℕ) → (ℕ → List ℕ → Result (A × List ℕ) WireFault) → Type 0
Weighs {A = A} weight read = (at : ℕ) (bytes : List ℕ) (x : A × List ℕ) → read at bytes ≡ Ok x → weight x.0 + length x.1 ≤ length bytes

after_weighs : {A : Type 0} (weight : A → ℕ) (at count : ℕ) (r : Result (A × List ℕ) WireFault) (others : ℕ → List ℕ → Listed A)
    → ((x : A × List ℕ) → r ≡ Ok x → weight x.0 + length x.1 ≤ count) → ((next : ℕ) (rest : List ℕ) → sum_by weight (others next rest).items ≤ length rest) → sum_by weight (after_item at count r others).items ≤ count
after_weighs weight at count (Ok x) others one rest =
    omega (arith, one x refl, rest (at + (count - length x.1)) x.1, sum_by-cons weight x.0 (others (at + (count - length x.1)) x.1).items)
after_weighs weight at count (Err d) others one rest = omega arith

pub listed_weighs : {A : Type 0} (weight : A → ℕ) (read : ℕ → List ℕ → Result (A × List ℕ) WireFault) → Weighs weight read → (most at : ℕ) (bytes : List ℕ) → sum_by weight (listed_within read most at bytes).items ≤ length bytes
listed_weighs weight read each most at [] = omega arith
listed_weighs weight read each zero at (b ∷ bytes) = omega arith
listed_weighs weight read each (suc most) at (b ∷ bytes) =
    after_weighs weight at (length (b ∷ bytes)) (read at (b ∷ bytes)) (listed_within read most) (λ x e. each at (b ∷ bytes) x e) (λ next rest. listed_weighs weight read each most next rest)

-- ---- a number is a byte at least

varint_weighs : Weighs (λ (n : ℕ). 1) varint_at
varint_weighs at bytes x e = omega (arith, varint_of-shorter bytes x.0 x.1 (varint_at_ok at bytes x e))

pub packed_weighs : (at : ℕ) (bytes : List ℕ) → sum_by (λ (n : ℕ). 1) (packed_of at bytes).items ≤ length bytes
unfolding packed_of
packed_weighs at bytes = listed_weighs (λ (n : ℕ). 1) varint_at varint_weighs (length bytes) at bytes

-- ---- a field is what it holds, and a byte at least

abbrev pub content_weight : Content → ℕ
content_weight (Varint n) = 1
content_weight (Fixed64 n) = 0
content_weight (Bytes inner) = length inner
content_weight (Fixed32 n) = 0

abbrev pub field_weight : WireField → ℕ
field_weight field = content_weight field.content

body_weighs : (at kind : ℕ) (bytes : List ℕ) (x : Content × List ℕ) → IsKind kind → body_of at kind bytes ≡ Ok x → content_weight x.0 + length x.1 ≤ length bytes
unfolding body_of varint_body fixed64_body bytes_body fixed32_body
body_weighs at kind bytes x (inl k) e =
    let b = bind_ok (varint_at at bytes) (λ n. Ok (Varint n.0, n.1)) x (sym (ap (λ j. body_of at j bytes) k) ∙ e) in
    let same = ap (λ (p : Content × List ℕ). content_weight p.0 + length p.1) (ok_is (Varint b.0.0, b.0.1) x b.2) in
    omega (arith, same, varint_of-shorter bytes b.0.0 b.0.1 (varint_at_ok at bytes b.0 b.1))
body_weighs at kind bytes x (inr (inl k)) e =
    let b = bind_ok (part_at at 8 bytes) (λ part. Ok (Fixed64 (from_le_bytes w64 part.0), part.1)) x (sym (ap (λ j. body_of at j bytes) k) ∙ e) in
    let same = ap (λ (p : Content × List ℕ). content_weight p.0 + length p.1) (ok_is (Fixed64 (from_le_bytes w64 b.0.0), b.0.1) x b.2) in
    let part = part_at_ok at 8 bytes b.0 b.1 in
    omega (arith, same, ap length part.1, length-append b.0.0 b.0.1)
body_weighs at kind bytes x (inr (inr (inl k))) e =
    let b = bind_ok (varint_at at bytes) (λ n. part_at at n.0 n.1 >>= λ part. Ok (Bytes part.0, part.1)) x (sym (ap (λ j. body_of at j bytes) k) ∙ e) in
    let c = bind_ok (part_at at b.0.0 b.0.1) (λ part. Ok (Bytes part.0, part.1)) x b.2 in
    let same = ap (λ (p : Content × List ℕ). content_weight p.0 + length p.1) (ok_is (Bytes c.0.0, c.0.1) x c.2) in
    let part = part_at_ok at b.0.0 b.0.1 c.0 c.1 in
    omega (arith, same, ap length part.1, length-append c.0.0 c.0.1, varint_of-shorter bytes b.0.0 b.0.1 (varint_at_ok at bytes b.0 b.1))
body_weighs at kind bytes x (inr (inr (inr k))) e =
    let b = bind_ok (part_at at 4 bytes) (λ part. Ok (Fixed32 (from_le_bytes w32 part.0), part.1)) x (sym (ap (λ j. body_of at j bytes) k) ∙ e) in
    let same = ap (λ (p : Content × List ℕ). content_weight p.0 + length p.1) (ok_is (Fixed32 (from_le_bytes w32 b.0.0), b.0.1) x b.2) in
    let part = part_at_ok at 4 bytes b.0 b.1 in
    omega (arith, same, ap length part.1, length-append b.0.0 b.0.1)

abbrev made : ℕ → ℕ → ℕ → ℕ → Content × List ℕ → WireField × List ℕ
made at all number tag body = (field_at at number tag (all - length body.1) body.0, body.1)

abbrev with_number_of : ℕ → ℕ → ℕ × List ℕ → ℕ → Result (WireField × List ℕ) WireFault
with_number_of at all tag number = body_of at (tag.0 % 8) tag.1 >>= λ body. Ok (made at all number (all - length tag.1) body)

pub fields_weigh : Weighs field_weight field_of
unfolding field_of
fields_weigh at bytes x e =
    let all = length bytes in
    let t = bind_ok (varint_at at bytes) (λ (tag : ℕ × List ℕ). number_at at tag.0 >>= with_number_of at all tag) x e in
    let n = bind_ok (number_at at t.0.0) (with_number_of at all t.0) x t.2 in
    let tag = all - length t.0.1 in
    let b = bind_ok (body_of at (t.0.0 % 8) t.0.1) (λ body. Ok (made at all n.0 tag body)) x n.2 in
    let good = number_at_ok at t.0.0 n.0 n.1 in
    let same = ap (λ (p : WireField × List ℕ). field_weight p.0 + length p.1) (ok_is (made at all n.0 tag b.0) x b.2) in
    omega (arith, same, varint_of-shorter bytes t.0.0 t.0.1 (varint_at_ok at bytes t.0 t.1), body_weighs at (t.0.0 % 8) t.0.1 b.0 good.0 b.1)

pub message_of_weighs : (at : ℕ) (bytes : List ℕ) → sum_by field_weight (message_of at bytes).items ≤ length bytes
unfolding message_of
message_of_weighs at bytes = listed_weighs field_weight field_of fields_weigh (length bytes) at bytes

-- the bytes that a field holds, and those behind it, are no more than those that it begins
pub field_holds : (at : ℕ) (bytes : List ℕ) (x : WireField × List ℕ) → field_of at bytes ≡ Ok x → inner_length x.0.content + length x.1 ≤ length bytes
field_holds at bytes x e = omega (arith, fields_weigh at bytes x e, held x.0.content)
  where
    held : (content : Content) → inner_length content ≤ content_weight content
    held (Varint n) = omega arith
    held (Fixed64 n) = omega arith
    held (Bytes inner) = omega arith
    held (Fixed32 n) = omega arith
