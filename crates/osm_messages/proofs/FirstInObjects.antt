-- The fault of a header, of a string table and of an object's numbers is the first that stands there.
use Rattle.std.proofs.Common.{◌≡◌, ℕ, ◌+◌, ◌<◌, ◌≤◌, cond, eqb, ◌||◌, Bool, true, false, List, [], ◌∷◌, ◌++◌, length, Some, None, Ok, Err, refl, sym, ap, ◌∙◌, arith, inl, inr, length-append, subst}
use Rattle.wire_read.specs.declared.fault.WireFault.{WireFault}
use Rattle.wire_read.specs.declared.fault.WireFault.TheVariants as wires
use Rattle.wire_read.specs.Varint.{AreBytes}
use Rattle.wire_read.specs.Numbers.{HasFault, SpellsNumbers, BreaksNumbers, IsReadOneWay}
use Rattle.wire_read.specs.Fields.{Content, Varint, Fixed64, Bytes, Fixed32, WireField, inner_length}
use Rattle.wire_read.proofs.Packed.{is_read_one_way}
use Rattle.wire_read.proofs.MessageLaw.{packed_is_computed}
use Rattle.osm_messages.specs.declared.fault.MessageFault.{MessageFault}
use Rattle.osm_messages.specs.declared.fault.MessageFault.TheVariants as faults
use Rattle.osm_messages.specs.Walks.{◌>>=◌, with_end, walk}
use Rattle.osm_messages.specs.Texts.{text_step, texts_in}
use Rattle.osm_messages.specs.Headers.{feature_step, features_in}
use Rattle.osm_messages.specs.declared.kind.ObjectKind.{ObjectKind}
use Rattle.osm_messages.specs.Numbers.{Shape, shape_of, is_field_among, with_number, with_packed, with_held, number_step, numbers_in}
use Rattle.osm_messages.specs.Means.{Part, holds_many}
use Rattle.osm_messages.specs.Faults.{wire_offset, fault_offset, InNone, InPacked, InList, InNumbers, StandsIn}
use Rattle.osm_messages.proofs.Meant.{err_not_ok, InBytes}
use Rattle.osm_messages.proofs.MeantNumbers.{take_step, with_numbers, many_same}
use Rattle.osm_messages.proofs.FirstFaults.{Faulty, Judged, err_is, message_within, message_judged}

-- ---- headers and string tables

never_refused : {B : Type 0} (view : Part → B) (b : Bool) (s : List B) (at body_at : ℕ) (content : Content) (d : MessageFault) → take_step view b s at body_at content ≡ Err d → ⊥
never_refused view b s at body_at (Varint n) d e = err_not_ok d s (sym e)
never_refused view b s at body_at (Fixed64 n) d e = err_not_ok d s (sym e)
never_refused view b s at body_at (Bytes bytes) d e = err_not_ok d (cond b (s ++ view (record { at = at; body_at = body_at; bytes = bytes }) ∷ []) s) (sym e)
never_refused view b s at body_at (Fixed32 n) d e = err_not_ok d s (sym e)

abbrev Any : {S : Type 0} → List WireField → S → Type 0
Any before s = Unit {0}

features_faulty : Faulty feature_step Any InNone
features_faulty = record {
  refused = λ before s x d holds le inv e. absurd (never_refused (λ part. (part.at, part.bytes)) (eqb x.number 4) s x.at x.body_at x.content d e);
  taken = λ before s u x holds le inv e. (tt, λ g stands. stands);
  within = λ before x g le stands. absurd stands;
}

texts_faulty : Faulty text_step Any InNone
texts_faulty = record {
  refused = λ before s x d holds le inv e. absurd (never_refused (λ part. part.bytes) (eqb x.number 1) s x.at x.body_at x.content d e);
  taken = λ before s u x holds le inv e. (tt, λ g stands. stands);
  within = λ before x g le stands. absurd stands;
}

pub features_judged : (at : ℕ) (bytes : List ℕ) → AreBytes bytes → Judged (features_in at bytes) (StandsIn InNone at bytes)
unfolding features_in
features_judged at bytes are = message_judged feature_step Any InNone features_faulty [] at bytes are tt

pub texts_judged : (at : ℕ) (bytes : List ℕ) → AreBytes bytes → Judged (texts_in at bytes) (StandsIn InNone at bytes)
unfolding texts_in
texts_judged at bytes are = message_judged text_step Any InNone texts_faulty [] at bytes are tt

pub table_within : (at : ℕ) (bytes : List ℕ) (g : MessageFault) → StandsIn InNone at bytes g → (at ≤ fault_offset g) × (fault_offset g < at + length bytes)
table_within at bytes g stands = message_within text_step Any InNone texts_faulty at bytes g stands

-- ---- packed numbers

number_place : (bytes : List ℕ) (place : ℕ) (wire : WireFault) → HasFault bytes place wire → wire_offset wire ≡ place
number_place bytes place (wires.Short at) has = has.0
number_place bytes place (wires.LongVarint at) has = has.0
number_place bytes place (wires.BadWire at kind) has = absurd has
number_place bytes place (wires.BadNumber at) has = absurd has

number_some : (bytes : List ℕ) (place : ℕ) (wire : WireFault) → HasFault bytes place wire → 0 < length bytes
number_some bytes place (wires.Short at) has = has.1
number_some bytes place (wires.LongVarint at) has = omega (arith, has.1)
number_some bytes place (wires.BadWire at kind) has = absurd has
number_some bytes place (wires.BadNumber at) has = absurd has

breaks_within : (bytes : List ℕ) (at : ℕ) (numbers : List ℕ) (wire : WireFault) → BreaksNumbers bytes at numbers wire → (at ≤ wire_offset wire) × (wire_offset wire < at + length bytes)
breaks_within bytes at [] wire has = (omega (arith, number_place bytes at wire has), omega (arith, number_place bytes at wire has, number_some bytes at wire has))
breaks_within bytes at (n ∷ numbers) wire (front, rest, is, split, breaks) =
    let w = breaks_within rest (at + length front) numbers wire breaks in
    (omega (arith, w.0), omega (arith, w.1, length-append front rest, ap length split))

packed_within : (bytes : List ℕ) (at : ℕ) (g : MessageFault) → InPacked at bytes g → (at ≤ fault_offset g) × (fault_offset g < at + length bytes)
packed_within bytes at g is =
    let w = breaks_within bytes at is.numbers is.wire is.breaks in
    (omega (arith, w.0, ap fault_offset is.fault_is), omega (arith, w.1, ap fault_offset is.fault_is))

packed_judged : (field at : ℕ) (bytes : List ℕ) (s : List (ℕ × ℕ)) → AreBytes bytes → Judged (with_packed field s at bytes) (InPacked at bytes)
packed_judged field at bytes s are = elim (is_read_one_way bytes at are).some [
  | inl found ↦ spelled found.0 found.1
  | inr found ↦ broken found.0 found.1 found.2
]
  where
    one : IsReadOneWay bytes at
    one = is_read_one_way bytes at are

    spelled : (numbers : List ℕ) → SpellsNumbers bytes numbers → Judged (with_packed field s at bytes) (InPacked at bytes)
    spelled numbers spells =
        let whole = ap (walk (with_number field) s) ((packed_is_computed bytes at).spelled numbers spells) ∙ ap (λ r. r >>= with_end None) (with_numbers field s numbers) in
        record {
          refused = λ d e. absurd (err_not_ok d _ (sym e ∙ whole));
          taken = λ t e g is. one.not_both numbers is.numbers is.wire spells is.breaks;
        }

    broken : (numbers : List ℕ) (wire : WireFault) → BreaksNumbers bytes at numbers wire → Judged (with_packed field s at bytes) (InPacked at bytes)
    broken numbers wire breaks =
        let whole : with_packed field s at bytes ≡ Err (faults.Wire wire) = ap (walk (with_number field) s) ((packed_is_computed bytes at).broken numbers wire breaks) ∙ ap (λ r. r >>= with_end (Some wire)) (with_numbers field s numbers) in
        record {
          refused = λ d e.
              let same = err_is (faults.Wire wire) d (sym whole ∙ e) in (
                record { numbers = numbers; wire = wire; breaks = breaks; fault_is = sym same },
                λ g is.
                    let wire_same = (one.one_fault numbers is.numbers wire is.wire breaks is.breaks).1 in
                    inl (is.fault_is ∙ ap (λ w. faults.Wire w) (sym wire_same) ∙ same),
              );
          taken = λ t e. absurd (err_not_ok (faults.Wire wire) t (sym whole ∙ e));
        }

-- ---- the numbers of an object

pub nothing : {S : Type 0} (s : S) → Judged {S = S} (Ok s) (λ g. ⊥)
nothing s = record { refused = λ d e. absurd (err_not_ok d s (sym e)); taken = λ t e g stands. stands }

varint_judged : (read : Bool) (field n : ℕ) (s : List (ℕ × ℕ)) → Judged (cond read (with_number field s n) (Ok s)) (λ g. ⊥)
varint_judged true field n s = nothing (s ++ (field, n) ∷ [])
varint_judged false field n s = nothing s

list_judged : (is_list : Bool) (field at : ℕ) (bytes : List ℕ) (s : List (ℕ × ℕ)) → AreBytes bytes → Judged (cond is_list (with_packed field s at bytes) (Ok s)) (λ g. (is_list ≡ true) × InPacked at bytes g)
list_judged true field at bytes s are =
    let packed = packed_judged field at bytes s are in
    record {
      refused = λ d e. let r = packed.refused d e in ((refl, r.0), λ g stands. r.1 g stands.1);
      taken = λ t e g stands. packed.taken t e g stands.1;
    }
list_judged false field at bytes s are = record { refused = λ d e. absurd (err_not_ok d s (sym e)); taken = λ t e g stands. false_not_true stands.0 }
  where
    false_not_true : false ≡ true → ⊥
    false_not_true e = cc

held_judged : (shape : Shape) (field at : ℕ) (content : Content) (s : List (ℕ × ℕ)) → InBytes content → Judged (with_held shape field at content s) (InList (is_field_among field shape.lists) at content)
held_judged shape field at (Varint n) s holds = varint_judged (is_field_among field shape.singles || is_field_among field shape.lists) field n s
held_judged shape field at (Fixed64 n) s holds = nothing s
held_judged shape field at (Bytes bytes) s holds = list_judged (is_field_among field shape.lists) field at bytes s holds
held_judged shape field at (Fixed32 n) s holds = nothing s

list_within : (is_list : Bool) (at : ℕ) (content : Content) (g : MessageFault) → InList is_list at content g → (at ≤ fault_offset g) × (fault_offset g < at + inner_length content)
list_within is_list at (Varint n) g stands = absurd stands
list_within is_list at (Fixed64 n) g stands = absurd stands
list_within is_list at (Bytes bytes) g stands = packed_within bytes at g stands.1
list_within is_list at (Fixed32 n) g stands = absurd stands

in_list : (kind : ObjectKind) (field at : ℕ) (content : Content) (s : List (ℕ × ℕ)) → InBytes content → Judged (with_held (shape_of kind) field at content s) (InList (holds_many kind field) at content)
in_list kind field at content s holds = subst (λ (b : Bool). Judged (with_held (shape_of kind) field at content s) (InList b at content)) (many_same kind field) (held_judged (shape_of kind) field at content s holds)

numbers_faulty : (kind : ObjectKind) → Faulty (number_step (shape_of kind)) Any (InNumbers kind)
numbers_faulty kind = record {
  refused = λ before s x d holds le inv e. (in_list kind x.number x.body_at x.content s holds).refused d e;
  taken = λ before s u x holds le inv e. (tt, (in_list kind x.number x.body_at x.content s holds).taken u e);
  within = λ before x g le stands.
      let w = list_within (holds_many kind x.number) x.body_at x.content g stands in
      (omega (arith, le, w.0), w.1);
}

pub numbers_judged : (kind : ObjectKind) (at : ℕ) (bytes : List ℕ) → AreBytes bytes → Judged (numbers_in (shape_of kind) at bytes) (StandsIn (InNumbers kind) at bytes)
unfolding numbers_in
numbers_judged kind at bytes are = message_judged (number_step (shape_of kind)) Any (InNumbers kind) (numbers_faulty kind) [] at bytes are tt

pub numbers_within : (kind : ObjectKind) (at : ℕ) (bytes : List ℕ) (g : MessageFault) → StandsIn (InNumbers kind) at bytes g → (at ≤ fault_offset g) × (fault_offset g < at + length bytes)
numbers_within kind at bytes g stands = message_within (number_step (shape_of kind)) Any (InNumbers kind) (numbers_faulty kind) at bytes g stands
