-- The fault of a message's steps is the first that stands in its bytes.
use Rattle.std.proofs.Common.{◌≡◌, ℕ, ◌+◌, ◌<◌, ◌≤◌, List, [], ◌∷◌, ◌++◌, length, Option, Some, None, Result, Ok, Err, refl, sym, ap, ◌∙◌, subst, arith, ◌⊎◌, inl, inr, length-append}
use Rattle.wire_read.specs.declared.fault.WireFault.{WireFault}
use Rattle.wire_read.specs.declared.fault.WireFault.TheVariants as wires
use Rattle.wire_read.specs.Varint.{AreBytes}
use Rattle.wire_read.specs.Fields.{Content, Varint, Fixed64, Bytes, Fixed32, WireField, inner_length, body_offset, IsBody, IsField, HasFieldFault, Listed, message_of}
use Rattle.wire_read.proofs.MessageLaw.{message_of-spelled, message_of-broken, fault_not_empty, is_message_one_way}
use Rattle.osm_messages.specs.declared.fault.MessageFault.{MessageFault}
use Rattle.osm_messages.specs.declared.fault.MessageFault.TheVariants as faults
use Rattle.osm_messages.specs.Walks.{◌>>=◌, steps, with_end, walk, message}
use Rattle.osm_messages.specs.Faults.{wire_offset, fault_offset, InField, StandsAmong, AreFields, IsBehind, StandsIn}
use Rattle.osm_messages.proofs.Meant.{parts_of, err_not_ok, Each, HoldsBytes, front_bytes, in_field, holds_bytes}
use Rattle.wire_read.proofs.Packed.{AreBytes-rest, IsGroups-length}

-- a fault that stands beside another one is the same, or stands behind it
abbrev pub SameOrBehind : MessageFault → MessageFault → Type 0
SameOrBehind d g = (g ≡ d) ⊎ (fault_offset d < fault_offset g)

-- ---- where fields lie

abbrev pub field_end : WireField → ℕ
field_end field = field.body_at + inner_length field.content

-- one behind the other, the last one before the end
abbrev Laid : ℕ → List WireField → ℕ → Type 0
Laid base [] end = base ≤ end
Laid base (field ∷ fields) end = (base ≤ field.at) × (field.at < field.body_at) × Laid (field_end field) fields end

body_lies : (tag body front : List ℕ) (kind : ℕ) (content : Content) → front ≡ tag ++ body → IsBody kind body content → body_offset (length tag) (length front) content + inner_length content ≤ length front
body_lies tag body front kind (Varint n) e is = omega (arith, length-append tag body, ap length e)
body_lies tag body front kind (Fixed64 n) e is = omega (arith, length-append tag body, ap length e)
body_lies tag body front kind (Bytes inner) e is = omega (arith, length-append tag body, ap length e, length-append is.1.0 inner, ap length is.1.2)
body_lies tag body front kind (Fixed32 n) e is = omega (arith, length-append tag body, ap length e)

body_starts : (tag body front : List ℕ) (kind : ℕ) (content : Content) → 0 < length tag → front ≡ tag ++ body → IsBody kind body content → 0 < body_offset (length tag) (length front) content
body_starts tag body front kind (Varint n) some e is = some
body_starts tag body front kind (Fixed64 n) some e is = some
body_starts tag body front kind (Bytes inner) some e is = omega (arith, some, length-append tag body, ap length e, length-append is.1.0 inner, ap length is.1.2)
body_starts tag body front kind (Fixed32 n) some e is = some

lies : (front : List ℕ) (field : WireField) → IsField front field → (field.at < field.body_at) × (field_end field ≤ field.at + length front)
lies front field is =
    let body = body_lies is.tag is.body front is.kind field.content is.parts is.is_body in
    let starts = body_starts is.tag is.body front is.kind field.content (IsGroups-length is.tag is.spells_tag.groups) is.parts is.is_body in
    (omega (arith, starts, is.body_place), omega (arith, is.body_place, body))

-- where more room is at the front, it fits too
laid_from : (low base end : ℕ) (fields : List WireField) → low ≤ base → Laid base fields end → Laid low fields end
laid_from low base end [] le laid = omega (arith, le, laid)
laid_from low base end (field ∷ fields) le laid = (omega (arith, le, laid.0), laid.1, laid.2)

laid_le : (base end : ℕ) (fields : List WireField) → Laid base fields end → base ≤ end
laid_le base end [] laid = laid
laid_le base end (field ∷ fields) laid = omega (arith, laid.0, laid.1, laid_le (field_end field) end fields laid.2)

-- the fields of bytes; the fault behind them stands at the end
record Lies (at : ℕ) (bytes : List ℕ) (fields : List WireField) (behind : Option WireFault) : Type 0 where
  end : ℕ
  laid : Laid at fields end
  within : end ≤ at + length bytes
  place : (fault : MessageFault) → IsBehind behind fault → fault_offset fault ≡ end
  some : (fault : MessageFault) → IsBehind behind fault → end < at + length bytes

fault_place : (bytes : List ℕ) (place : ℕ) (wire : WireFault) → HasFieldFault bytes place wire → wire_offset wire ≡ place
fault_place bytes place (wires.Short at) has = has.0
fault_place bytes place (wires.LongVarint at) has = has.0
fault_place bytes place (wires.BadWire at kind) has = has.0
fault_place bytes place (wires.BadNumber at) has = has.0

lies_cons : (at : ℕ) (bytes front rest : List ℕ) (field : WireField) (fields : List WireField) (behind : Option WireFault) → IsField front field → field.at ≡ at → bytes ≡ front ++ rest → Lies (at + length front) rest fields behind → Lies at bytes (field ∷ fields) behind
lies_cons at bytes front rest field fields behind is place split others =
    let here = lies front field is in
    record {
      end = others.end;
      laid = (omega (arith, place), here.0, laid_from (field_end field) (at + length front) others.end fields (omega (arith, here.1, place)) others.laid);
      within = omega (arith, others.within, length-append front rest, ap length split);
      place = others.place;
      some = λ fault h. omega (arith, others.some fault h, length-append front rest, ap length split);
    }

fields_lie : (at : ℕ) (bytes : List ℕ) (fields : List WireField) (behind : Option WireFault) → AreFields bytes at fields behind → Lies at bytes fields behind
fields_lie at bytes [] None are = record { end = at; laid = omega arith; within = omega arith; place = λ fault h. absurd h; some = λ fault h. absurd h }
fields_lie at bytes [] (Some wire) are = record { end = at; laid = omega arith; within = omega arith; place = λ fault h. ap fault_offset h ∙ fault_place bytes at wire are; some = λ fault h. omega (arith, fault_not_empty bytes at wire are) }
fields_lie at bytes (field ∷ fields) None (front, rest, is, place, split, spells) =
    lies_cons at bytes front rest field fields None is place split (fields_lie (at + length front) rest fields None spells)
fields_lie at bytes (field ∷ fields) (Some wire) (front, rest, is, place, split, breaks) =
    lies_cons at bytes front rest field fields (Some wire) is place split (fields_lie (at + length front) rest fields (Some wire) breaks)

hold_bytes : (at : ℕ) (bytes : List ℕ) (fields : List WireField) (behind : Option WireFault) → AreBytes bytes → AreFields bytes at fields behind → Each HoldsBytes fields
hold_bytes at bytes fields None are spells = holds_bytes bytes at fields are spells
hold_bytes at bytes [] (Some wire) are breaks = tt
hold_bytes at bytes (field ∷ fields) (Some wire) are (front, rest, is, place, split, breaks) = (
  in_field front field (front_bytes bytes front rest are split) is,
  hold_bytes (at + length front) rest fields (Some wire) (AreBytes-rest bytes front rest are split) breaks,
)

-- ---- what is asked of a step

-- The states that may stand behind fields; which fault a step has, where it has one; that none stands in the field
-- where it has none; and that those of a field stand in it.
pub record Faulty {S : Type 0} (step : S → WireField → Result S MessageFault) (Inv : List WireField → S → Type 0) (inside : InField) : Type 0 where
  pub refused : (before : List WireField) (s : S) (x : WireField) (d : MessageFault) → HoldsBytes x → x.at < x.body_at → Inv before s → step s x ≡ Err d → inside before x d × ((g : MessageFault) → inside before x g → SameOrBehind d g)
  pub taken : (before : List WireField) (s u : S) (x : WireField) → HoldsBytes x → x.at < x.body_at → Inv before s → step s x ≡ Ok u → Inv (before ++ x ∷ []) u × ((g : MessageFault) → inside before x g → ⊥)
  pub within : (before : List WireField) (x : WireField) (g : MessageFault) → x.at < x.body_at → inside before x g → (x.at ≤ fault_offset g) × (fault_offset g < field_end x)

-- what a message is told to be, against the faults that stand in it
pub record Judged {S : Type 0} (m : Result S MessageFault) (Stands : MessageFault → Type 0) : Type 0 where
  pub refused : (d : MessageFault) → m ≡ Err d → Stands d × ((g : MessageFault) → Stands g → SameOrBehind d g)
  pub taken : (t : S) → m ≡ Ok t → (g : MessageFault) → Stands g → ⊥

pub err_is : {A : Type 0} (f d : MessageFault) → ◌≡◌ {A = Result A MessageFault} (Err f) (Err d) → f ≡ d
err_is f d e = cc

module _ {S : Type 0} (step : S → WireField → Result S MessageFault) (Inv : List WireField → S → Type 0) (inside : InField) (faulty : Faulty step Inv inside) where
  bounds : (before fields : List WireField) (base end : ℕ) (g : MessageFault) → Laid base fields end → StandsAmong inside before fields g → (base ≤ fault_offset g) × (fault_offset g < end)
  bounds before [] base end g laid stands = absurd stands
  bounds before (x ∷ fields) base end g laid (inl here) =
      let w = faulty.within before x g laid.1 here in
      (omega (arith, laid.0, w.0), omega (arith, w.1, laid_le (field_end x) end fields laid.2))
  bounds before (x ∷ fields) base end g laid (inr later) =
      let w = bounds (before ++ x ∷ []) fields (field_end x) end g laid.2 later in
      (omega (arith, laid.0, laid.1, w.0), w.1)

  steps_taken : (before : List WireField) (s t : S) (fields : List WireField) (base end : ℕ) → Laid base fields end → Each HoldsBytes fields → Inv before s → steps step s fields ≡ Ok t → (g : MessageFault) → StandsAmong inside before fields g → ⊥
  steps_taken before s t [] base end laid holds inv e g stands = stands
  steps_taken before s t (x ∷ fields) base end laid holds inv e g (inl here) =
      let u = parts_of (step s x) (λ v. steps step v fields) t e in
      (faulty.taken before s u.0 x holds.0 laid.1 inv u.1).1 g here
  steps_taken before s t (x ∷ fields) base end laid holds inv e g (inr later) =
      let u = parts_of (step s x) (λ v. steps step v fields) t e in
      steps_taken (before ++ x ∷ []) u.0 t fields (field_end x) end laid.2 holds.1 (faulty.taken before s u.0 x holds.0 laid.1 inv u.1).0 u.2 g later

  abbrev FirstAmong : List WireField → List WireField → MessageFault → Type 0
  FirstAmong before fields d = StandsAmong inside before fields d × ((g : MessageFault) → StandsAmong inside before fields g → SameOrBehind d g)

  -- by what the first step does, where the others are known
  refused_by : (before : List WireField) (s : S) (x : WireField) (fields : List WireField) (base end : ℕ) (d : MessageFault) (r : Result S MessageFault) → Laid base (x ∷ fields) end → HoldsBytes x → Inv before s
      → ((u : S) → Inv (before ++ x ∷ []) u → steps step u fields ≡ Err d → FirstAmong (before ++ x ∷ []) fields d)
      → step s x ≡ r → (r >>= λ v. steps step v fields) ≡ Err d → FirstAmong before (x ∷ fields) d
  refused_by before s x fields base end d (Err f) laid holds inv others is e =
      let same = err_is f d e in
      let here = faulty.refused before s x f holds laid.1 inv is in
      let all : (g : MessageFault) → StandsAmong inside before (x ∷ fields) g → SameOrBehind f g =
      λ g stands. elim stands [
        | inl h ↦ here.1 g h
        | inr later ↦ inr (omega (arith, (faulty.within before x f laid.1 here.0).1, (bounds (before ++ x ∷ []) fields (field_end x) end g laid.2 later).0))
      ] in
      subst (λ (k : MessageFault). FirstAmong before (x ∷ fields) k) same (inl here.0, all)
  refused_by before s x fields base end d (Ok u) laid holds inv others is e =
      let next = faulty.taken before s u x holds laid.1 inv is in
      let rest = others u next.0 e in (
        inr rest.0,
        λ g stands. elim stands [
          | inl h ↦ absurd (next.1 g h)
          | inr later ↦ rest.1 g later
        ],
      )

  steps_refused : (before : List WireField) (s : S) (fields : List WireField) (base end : ℕ) (d : MessageFault) → Laid base fields end → Each HoldsBytes fields → Inv before s → steps step s fields ≡ Err d → FirstAmong before fields d
  steps_refused before s [] base end d laid holds inv e = absurd (err_not_ok d s (sym e))
  steps_refused before s (x ∷ fields) base end d laid holds inv e =
      refused_by before s x fields base end d (step s x) laid holds.0 inv
      (λ u next f. steps_refused (before ++ x ∷ []) u fields (field_end x) end d laid.2 holds.1 next f)
      refl e

  -- ---- a message

  listed : (at : ℕ) (bytes : List ℕ) (fields : List WireField) (behind : Option WireFault) → AreFields bytes at fields behind → message_of at bytes ≡ record { items = fields; fault = behind }
  listed at bytes fields None are = message_of-spelled bytes at fields are
  listed at bytes fields (Some wire) are = message_of-broken bytes at fields wire are

  abbrev Here : Listed WireField → MessageFault → Type 0
  Here list g = IsBehind list.fault g ⊎ StandsAmong inside [] list.items g

  stands_here : (at : ℕ) (bytes : List ℕ) (fields : List WireField) (behind : Option WireFault) (g : MessageFault) → AreFields bytes at fields behind → StandsIn inside at bytes g → Here (record { items = fields; fault = behind }) g
  stands_here at bytes fields behind g are stands =
      let same = sym (listed at bytes stands.fields stands.behind stands.are_fields) ∙ listed at bytes fields behind are in
      subst (λ (l : Listed WireField). Here l g) same stands.stands

  pub message_within : (at : ℕ) (bytes : List ℕ) (g : MessageFault) → StandsIn inside at bytes g → (at ≤ fault_offset g) × (fault_offset g < at + length bytes)
  message_within at bytes g stands =
      let lie = fields_lie at bytes stands.fields stands.behind stands.are_fields in
      elim stands.stands [
        | inl h ↦ (omega (arith, lie.place g h, laid_le at lie.end stands.fields lie.laid), omega (arith, lie.place g h, lie.some g h))
        | inr h ↦ let b = bounds [] stands.fields at lie.end g lie.laid h in (b.0, omega (arith, b.1, lie.within))
      ]

  abbrev First : ℕ → List ℕ → MessageFault → Type 0
  First at bytes d = StandsIn inside at bytes d × ((g : MessageFault) → StandsIn inside at bytes g → SameOrBehind d g)

  ended_by : (at : ℕ) (bytes : List ℕ) (fields : List WireField) (behind : Option WireFault) (d : MessageFault) (u : S) → AreFields bytes at fields behind → ((g : MessageFault) → StandsAmong inside [] fields g → ⊥) → with_end behind u ≡ Err d → First at bytes d
  ended_by at bytes fields None d u are none e = absurd (err_not_ok d u (sym e))
  ended_by at bytes fields (Some wire) d u are none e =
      let same = err_is (faults.Wire wire) d e in
      subst (λ (k : MessageFault). First at bytes k) same (
        record { fields = fields; behind = Some wire; are_fields = are; stands = inl refl },
        λ g stands. elim (stands_here at bytes fields (Some wire) g are stands) [
          | inl h ↦ inl h
          | inr h ↦ absurd (none g h)
        ],
      )

  whole_by : (start : S) (at : ℕ) (bytes : List ℕ) (fields : List WireField) (behind : Option WireFault) (d : MessageFault) (r : Result S MessageFault) → AreFields bytes at fields behind → Each HoldsBytes fields → Inv [] start
      → steps step start fields ≡ r → (r >>= with_end behind) ≡ Err d → First at bytes d
  whole_by start at bytes fields behind d (Ok u) are holds inv is e =
      let lie = fields_lie at bytes fields behind are in
      ended_by at bytes fields behind d u are (steps_taken [] start u fields at lie.end lie.laid holds inv is) e
  whole_by start at bytes fields behind d (Err f) are holds inv is e =
      let same = err_is f d e in
      let lie = fields_lie at bytes fields behind are in
      let first = steps_refused [] start fields at lie.end f lie.laid holds inv is in
      subst (λ (k : MessageFault). First at bytes k) same (
        record { fields = fields; behind = behind; are_fields = are; stands = inr first.0 },
        λ g stands. elim (stands_here at bytes fields behind g are stands) [
          | inl h ↦ inr (omega (arith, lie.place g h, (bounds [] fields at lie.end f lie.laid first.0).1))
          | inr h ↦ first.1 g h
        ],
      )

  no_fault : (behind : Option WireFault) (u t : S) (g : MessageFault) → with_end behind u ≡ Ok t → IsBehind behind g → ⊥
  no_fault None u t g e h = h
  no_fault (Some wire) u t g e h = err_not_ok (faults.Wire wire) t e

  judged_by : (start : S) (at : ℕ) (bytes : List ℕ) (fields : List WireField) (behind : Option WireFault) → AreBytes bytes → Inv [] start → AreFields bytes at fields behind → Judged (message step start at bytes) (StandsIn inside at bytes)
  judged_by start at bytes fields behind are_bytes inv are =
      let same = ap (walk step start) (listed at bytes fields behind are) in
      let holds = hold_bytes at bytes fields behind are_bytes are in
      record {
        refused = λ d e. whole_by start at bytes fields behind d (steps step start fields) are holds inv refl (sym same ∙ e);
        taken = λ t e g stands.
            let u = parts_of (steps step start fields) (with_end behind) t (sym same ∙ e) in
            let lie = fields_lie at bytes fields behind are in
            elim (stands_here at bytes fields behind g are stands) [
              | inl h ↦ no_fault behind u.0 t g u.2 h
              | inr h ↦ steps_taken [] start u.0 fields at lie.end lie.laid holds inv u.1 g h
            ];
      }

  pub message_judged : (start : S) (at : ℕ) (bytes : List ℕ) → AreBytes bytes → Inv [] start → Judged (message step start at bytes) (StandsIn inside at bytes)
  message_judged start at bytes are inv = elim (is_message_one_way bytes at are).some [
    | inl found ↦ judged_by start at bytes found.0 None are inv found.1
    | inr found ↦ judged_by start at bytes found.0 (Some found.1) are inv found.2
  ]
