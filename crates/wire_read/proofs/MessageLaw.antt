-- The law of messages: which list of fields, or which fault behind which fields, is by the grammar alone, and it is computed.
use Rattle.std.proofs.Common.{◌≡◌, ℕ, zero, suc, ◌+◌, ◌<◌, ◌≤◌, List, [], ◌∷◌, ◌++◌, length, Option, Some, None, Result, Ok, Err, refl, sym, ap, ◌∙◌, arith, ◌⊎◌, inl, inr, length-append}
use Rattle.wire_read.specs.declared.fault.WireFault.{WireFault}
use Rattle.wire_read.specs.declared.fault.WireFault.TheVariants as faults
use Rattle.wire_read.specs.Varint.{AreBytes}
use Rattle.wire_read.specs.Numbers.{HasFault, SpellsNumbers, BreaksNumbers}
use Rattle.wire_read.specs.Fields.{WireField, IsField, Tagged, HasFieldFault, SpellsFields, BreaksFields, varint_at, field_of, Listed, with_item, message_of, packed_of, IsMessageOneWay, PackedIsComputed}
use Rattle.wire_read.proofs.Packed.{AreBytes-rest, IsGroups-length}
use Rattle.wire_read.proofs.FieldParts.{varint_at-front, varint_at-cut, varint_at-endless}
use Rattle.wire_read.proofs.Messages.{field_found, field_of-front, fault_found, field_of-fault, field_of-shorter}
use Rattle.wire_read.proofs.Lists.{message_of-nil, message_of-field, message_of-fault, packed_of-nil, packed_of-number, packed_of-fault}

-- ---- what is by the grammar is computed

pub message_of-spelled : (bytes : List ℕ) (base : ℕ) (fields : List WireField) → SpellsFields bytes base fields → message_of base bytes ≡ record { items = fields; fault = None }
message_of-spelled bytes base [] empty = ap (message_of base) empty ∙ message_of-nil base
message_of-spelled bytes base (field ∷ fields) (front, rest, is, place, split, spells) =
    let first : field_of base bytes ≡ Ok (field, rest) = ap (field_of base) split ∙ field_of-front base front rest field is place in
    let places : base + length front + length rest ≡ base + length bytes = omega (arith, length-append front rest, ap length split) in
    message_of-field base (base + length front) bytes (field, rest) first places
    ∙ ap (with_item field) (message_of-spelled rest (base + length front) fields spells)

tag_not_empty : (bytes : List ℕ) → Tagged bytes → 0 < length bytes
tag_not_empty bytes tagged = omega (arith, IsGroups-length tagged.tag tagged.spells.groups, length-append tagged.tag tagged.body, ap length tagged.parts)

-- what has a fault isn't empty
pub fault_not_empty : (bytes : List ℕ) (base : ℕ) (fault : WireFault) → HasFieldFault bytes base fault → 0 < length bytes
fault_not_empty bytes base (faults.Short at) has = has.1
fault_not_empty bytes base (faults.LongVarint at) (place, inl endless) = omega (arith, endless.0)
fault_not_empty bytes base (faults.LongVarint at) (place, inr h) = tag_not_empty bytes h.0
fault_not_empty bytes base (faults.BadWire at kind) has = tag_not_empty bytes has.1.0
fault_not_empty bytes base (faults.BadNumber at) has = tag_not_empty bytes has.1.0

pub message_of-broken : (bytes : List ℕ) (base : ℕ) (fields : List WireField) (fault : WireFault) → BreaksFields bytes base fields fault → message_of base bytes ≡ record { items = fields; fault = Some fault }
message_of-broken bytes base [] fault has =
    message_of-fault base bytes fault (fault_not_empty bytes base fault has) (field_of-fault base bytes fault has)
message_of-broken bytes base (field ∷ fields) fault (front, rest, is, place, split, breaks) =
    let first : field_of base bytes ≡ Ok (field, rest) = ap (field_of base) split ∙ field_of-front base front rest field is place in
    let places : base + length front + length rest ≡ base + length bytes = omega (arith, length-append front rest, ap length split) in
    message_of-field base (base + length front) bytes (field, rest) first places
    ∙ ap (with_item field) (message_of-broken rest (base + length front) fields fault breaks)

-- ---- there is a reading

abbrev Reading : List ℕ → ℕ → Type 0
Reading bytes base = ((fields : List WireField) × SpellsFields bytes base fields) ⊎ ((fields : List WireField) × (fault : WireFault) × BreaksFields bytes base fields fault)

Reading-cons : (bytes rest : List ℕ) (base : ℕ) (field : WireField) (front : List ℕ) → IsField front field → field.at ≡ base → bytes ≡ front ++ rest → Reading rest (base + length front) → Reading bytes base
Reading-cons bytes rest base field front is place split (inl r) = inl (field ∷ r.0, (front, rest, is, place, split, r.1))
Reading-cons bytes rest base field front is place split (inr r) = inr (field ∷ r.0, r.1, (front, rest, is, place, split, r.2))

-- by what begins the bytes, where shorter lists have a reading
reading_by : (bytes : List ℕ) (base : ℕ) (r : Result (WireField × List ℕ) WireFault) → AreBytes bytes → 0 < length bytes → field_of base bytes ≡ r
    → ((rest : List ℕ) (next : ℕ) → AreBytes rest → length rest < length bytes → Reading rest next) → Reading bytes base
reading_by bytes base (Ok x) are some e shorter =
    let found = field_found base bytes x are e in
    Reading-cons bytes x.1 base x.0 found.0 found.1 found.2 found.3
    (shorter x.1 (base + length found.0) (AreBytes-rest bytes found.0 x.1 are found.3) (field_of-shorter base bytes x e))
reading_by bytes base (Err d) are some e shorter = inr ([], d, fault_found base bytes d are some e)

-- by induction on the number of bytes
reading_within : (most : ℕ) (bytes : List ℕ) (base : ℕ) → AreBytes bytes → length bytes ≤ most → Reading bytes base
reading_within most [] base are few = inl ([], refl)
reading_within zero (b ∷ bytes) base are few = absurd (omega arith)
reading_within (suc most) (b ∷ bytes) base are few =
    reading_by (b ∷ bytes) base (field_of base (b ∷ bytes)) are (omega arith) refl
    (λ rest next are_rest fewer. reading_within most rest next are_rest (omega arith))

-- ---- there is one

one_list : (bytes : List ℕ) (base : ℕ) (a b : List WireField) → SpellsFields bytes base a → SpellsFields bytes base b → a ≡ b
one_list bytes base a b p q =
    let same = sym (message_of-spelled bytes base a p) ∙ message_of-spelled bytes base b q in ap (λ (m : Listed WireField). m.items) same

fault_or : WireFault → Option WireFault → WireFault
fault_or d None = d
fault_or d (Some c) = c

one_fault : (bytes : List ℕ) (base : ℕ) (a b : List WireField) (f g : WireFault) → BreaksFields bytes base a f → BreaksFields bytes base b g → (a ≡ b) × (f ≡ g)
unfolding fault_or
one_fault bytes base a b f g p q =
    let same = sym (message_of-broken bytes base a f p) ∙ message_of-broken bytes base b g q in
    (ap (λ (m : Listed WireField). m.items) same, ap (λ (m : Listed WireField). fault_or f m.fault) same)

not_both : (bytes : List ℕ) (base : ℕ) (a b : List WireField) (f : WireFault) → SpellsFields bytes base a → BreaksFields bytes base b f → ⊥
not_both bytes base a b f p q =
    let same = sym (message_of-spelled bytes base a p) ∙ message_of-broken bytes base b f q in
    let differ : ◌≡◌ {A = Option WireFault} None (Some f) = ap (λ (m : Listed WireField). m.fault) same in cc

pub is_message_one_way : (bytes : List ℕ) (base : ℕ) → AreBytes bytes → IsMessageOneWay bytes base
is_message_one_way bytes base are = record {
  some = reading_within (length bytes) bytes base are (omega arith);
  one_list = one_list bytes base;
  one_fault = one_fault bytes base;
  not_both = not_both bytes base;
  spelled = message_of-spelled bytes base;
  broken = message_of-broken bytes base;
}

-- ---- packed numbers

numbers_spelled : (bytes : List ℕ) (base : ℕ) (numbers : List ℕ) → SpellsNumbers bytes numbers → packed_of base bytes ≡ record { items = numbers; fault = None }
numbers_spelled bytes base [] empty = ap (packed_of base) empty ∙ packed_of-nil base
numbers_spelled bytes base (n ∷ numbers) (front, rest, is, split, spells) =
    let first : varint_at base bytes ≡ Ok (n, rest) = ap (varint_at base) split ∙ varint_at-front base front rest n is in
    let places : base + length front + length rest ≡ base + length bytes = omega (arith, length-append front rest, ap length split) in
    packed_of-number base (base + length front) bytes (n, rest) first places
    ∙ ap (with_item n) (numbers_spelled rest (base + length front) numbers spells)

-- what a fault of packed numbers is to a reader
number_fault : (bytes : List ℕ) (base : ℕ) (fault : WireFault) → HasFault bytes base fault → (0 < length bytes) × (varint_at base bytes ≡ Err fault)
number_fault bytes base (faults.Short at) (place, some, few, on) = (some, varint_at-cut base bytes (few, on) ∙ ap (λ k. Err (faults.Short k)) (sym place))
number_fault bytes base (faults.LongVarint at) (place, many, on) = (omega arith, varint_at-endless base bytes (many, on) ∙ ap (λ k. Err (faults.LongVarint k)) (sym place))
number_fault bytes base (faults.BadWire at kind) has = absurd has
number_fault bytes base (faults.BadNumber at) has = absurd has

numbers_broken : (bytes : List ℕ) (base : ℕ) (numbers : List ℕ) (fault : WireFault) → BreaksNumbers bytes base numbers fault → packed_of base bytes ≡ record { items = numbers; fault = Some fault }
numbers_broken bytes base [] fault has =
    let cause = number_fault bytes base fault has in packed_of-fault base bytes fault cause.0 cause.1
numbers_broken bytes base (n ∷ numbers) fault (front, rest, is, split, breaks) =
    let first : varint_at base bytes ≡ Ok (n, rest) = ap (varint_at base) split ∙ varint_at-front base front rest n is in
    let places : base + length front + length rest ≡ base + length bytes = omega (arith, length-append front rest, ap length split) in
    packed_of-number base (base + length front) bytes (n, rest) first places
    ∙ ap (with_item n) (numbers_broken rest (base + length front) numbers fault breaks)

pub packed_is_computed : (bytes : List ℕ) (base : ℕ) → PackedIsComputed bytes base
packed_is_computed bytes base = record { spelled = numbers_spelled bytes base; broken = numbers_broken bytes base }
