-- The fault of a group and of a block is the first that stands there.
use Rattle.std.proofs.Common.{◌≡◌, ℕ, ◌+◌, ◌<◌, ◌≤◌, cond, eqb, ◌&&◌, Bool, true, false, is_some, List, [], ◌∷◌, ◌++◌, length, Option, Some, None, Result, Ok, Err, ◌↔◌, refl, sym, ap, ◌∙◌, subst, arith, ◌⊎◌, inl, inr, ◌||◌}
use Rattle.std.proofs.lemmas.List.{append-nil}
use Rattle.std.proofs.lemmas.List.Elements.{filter_map-append, All-nil}
use Rattle.wire_read.specs.Varint.{AreBytes}
use Rattle.wire_read.specs.Fields.{Content, Varint, Fixed64, Bytes, Fixed32, WireField, inner_length}
use Rattle.osm_messages.specs.declared.fault.MessageFault.{MessageFault}
use Rattle.osm_messages.specs.declared.fault.MessageFault.TheVariants as faults
use Rattle.osm_messages.specs.declared.kind.ObjectKind.{ObjectKind}
use Rattle.osm_messages.specs.declared.kind.ObjectKind.TheVariants as kinds
use Rattle.osm_messages.specs.Walks.{◌>>=◌, with_bytes}
use Rattle.osm_messages.specs.Texts.{texts_in}
use Rattle.osm_messages.specs.Headers.{features_in}
use Rattle.osm_messages.specs.Numbers.{shape_of, numbers_in}
use Rattle.osm_messages.specs.Groups.{Object, has_dense, object_of, with_member, group_step, group_in}
use Rattle.osm_messages.specs.Blocks.{Block, no_block, with_table, with_group, with_field, block_step, block_in}
use Rattle.osm_messages.specs.Means.{Part, held_part, parts, kind_of_field, object_by, held_object, objects_of_fields, SpellsObject, is_dense_nodes}
use Rattle.osm_messages.specs.Faults.{fault_offset, InField, InNone, InNumbers, InObject, InMember, InTable, InGroup, InBlock, StandsIn, IsFirst, has_dense_nodes}
use Rattle.osm_messages.proofs.Meant.{parts_of, err_not_ok, InBytes, HoldsBytes}
use Rattle.osm_messages.proofs.MeantGroups.{add, add_kind, member_kind, held_added, dense_same}
use Rattle.osm_messages.proofs.MeantBlocks.{left_of, TableFrom, same_block, apart_1_2, field_means, true_not_false, not_empty}
use Rattle.osm_messages.proofs.FirstFaults.{SameOrBehind, Faulty, Judged, err_is, message_within, message_judged}
use Rattle.osm_messages.proofs.FirstInObjects.{nothing, features_judged, texts_judged, table_within, numbers_judged, numbers_within}

-- ---- results

-- where what follows has no fault, the fault is the part's
err_part : {A B : Type 0} (r : Result A MessageFault) (f : A → B) (d : MessageFault) → (r >>= λ x. Ok (f x)) ≡ Err d → r ≡ Err d
err_part (Ok x) f d e = absurd (err_not_ok d (f x) (sym e))
err_part (Err g) f d e = ap Err (err_is g d e)

false_not_true : false ≡ true → ⊥
false_not_true e = cc

-- ---- one object

abbrev InAdded : Bool → ℕ → Object → MessageFault → Type 0
InAdded again at object g = ((again ≡ true) × (g ≡ faults.Repeated at 2)) ⊎ StandsIn (InNumbers object.kind) object.at object.bytes g

add_judged : (again : Bool) (objects : List Object) (at : ℕ) (object : Object) → AreBytes object.bytes → at < object.at → Judged (add again objects at object) (InAdded again at object)
add_judged true objects at object are le = record {
  refused = λ d e.
      let same = err_is (faults.Repeated at 2) d e in (
        inl (refl, sym same),
        λ g stands. elim stands [
          | inl h ↦ inl (h.1 ∙ same)
          | inr h ↦ inr (omega (arith, ap fault_offset same, le, (numbers_within object.kind object.at object.bytes g h).0))
        ],
      );
  taken = λ t e. absurd (err_not_ok (faults.Repeated at 2) t e);
}
add_judged false objects at object are le =
    let numbers = numbers_in (shape_of object.kind) object.at object.bytes in
    let judged = numbers_judged object.kind object.at object.bytes are in
    record {
      refused = λ d e.
          let r = judged.refused d (err_part numbers (λ _. objects ++ object ∷ []) d e) in (
            inr r.0,
            λ g stands. elim stands [
              | inl h ↦ absurd (false_not_true h.0)
              | inr h ↦ r.1 g h
            ],
          );
      taken = λ t e g stands.
          let u = parts_of numbers (λ _. Ok (objects ++ object ∷ [])) t e in
          elim stands [
            | inl h ↦ false_not_true h.0
            | inr h ↦ judged.taken u.0 u.1 g h
          ];
    }

kind_judged : (kind : Option ObjectKind) (objects : List Object) (field : WireField) (bytes : List ℕ) → AreBytes bytes → field.at < field.body_at → Judged (add_kind kind objects field bytes) (InObject (has_dense objects) field.at (object_by field.body_at bytes kind))
kind_judged None objects field bytes are le = nothing objects
kind_judged (Some kinds.Node) objects field bytes are le = add_judged false objects field.at (object_of kinds.Node field bytes) are le
kind_judged (Some kinds.DenseNodes) objects field bytes are le = add_judged (has_dense objects) objects field.at (object_of kinds.DenseNodes field bytes) are le
kind_judged (Some kinds.Way) objects field bytes are le = add_judged false objects field.at (object_of kinds.Way field bytes) are le
kind_judged (Some kinds.Relation) objects field bytes are le = add_judged false objects field.at (object_of kinds.Relation field bytes) are le

member_judged : (objects : List Object) (field : WireField) (content : Content) → InBytes content → field.at < field.body_at → Judged (with_bytes objects content (with_member objects field)) (InObject (has_dense objects) field.at (held_object field.number field.body_at content))
member_judged objects field (Varint n) holds le = nothing objects
member_judged objects field (Fixed64 n) holds le = nothing objects
member_judged objects field (Bytes bytes) holds le =
    subst (λ (r : Result (List Object) MessageFault). Judged r (InObject (has_dense objects) field.at (object_by field.body_at bytes (kind_of_field field.number))))
    (sym (member_kind objects field bytes))
    (kind_judged (kind_of_field field.number) objects field bytes holds le)
member_judged objects field (Fixed32 n) holds le = nothing objects

object_within : (kind : Option ObjectKind) (had : Bool) (at body_at : ℕ) (bytes : List ℕ) (g : MessageFault) → at < body_at → InObject had at (object_by body_at bytes kind) g → (at ≤ fault_offset g) × (fault_offset g < body_at + length bytes)
object_within None had at body_at bytes g le stands = absurd stands
object_within (Some kind) had at body_at bytes g le (inl h) = (omega (arith, ap fault_offset h.1), omega (arith, le, ap fault_offset h.1))
object_within (Some kind) had at body_at bytes g le (inr h) =
    let w = numbers_within kind body_at bytes g h in
    (omega (arith, le, w.0), w.1)

member_within : (had : Bool) (number at body_at : ℕ) (content : Content) (g : MessageFault) → at < body_at → InObject had at (held_object number body_at content) g → (at ≤ fault_offset g) × (fault_offset g < body_at + inner_length content)
member_within had number at body_at (Varint n) g le stands = absurd stands
member_within had number at body_at (Fixed64 n) g le stands = absurd stands
member_within had number at body_at (Bytes bytes) g le stands = object_within (kind_of_field number) had at body_at bytes g le stands
member_within had number at body_at (Fixed32 n) g le stands = absurd stands

-- ---- a group

-- the objects so far are those of the fields before
abbrev GroupInv : List WireField → List Object → Type 0
GroupInv before s = s ≡ objects_of_fields before

group_next : (before : List WireField) (s u : List Object) (x : WireField) → HoldsBytes x → GroupInv before s → group_step s x ≡ Ok u → GroupInv (before ++ x ∷ []) u
group_next before s u x holds inv e =
    let behind = (held_added s [] u x x.content holds).0 (u, e, (sym (append-nil u), All-nil SpellsObject, tt)) in
    behind.0
    ∙ ap (λ (l : List Object). l ++ objects_of_fields (x ∷ [])) inv
    ∙ sym (filter_map-append (λ (field : WireField). held_object field.number field.body_at field.content) before (x ∷ []))

had_same : (objects : List Object) → has_dense objects ≡ has_dense_nodes objects
had_same [] = refl
had_same (object ∷ objects) = ap (λ b. b || has_dense objects) (dense_same object.kind) ∙ ap (λ b. is_dense_nodes object.kind || b) (had_same objects)

had_before : (before : List WireField) (s : List Object) → GroupInv before s → has_dense s ≡ has_dense_nodes (objects_of_fields before)
had_before before s inv = ap (λ (l : List Object). has_dense l) inv ∙ had_same (objects_of_fields before)

group_faulty : Faulty group_step GroupInv InMember
group_faulty = record {
  refused = λ before s x d holds le inv e.
      subst (λ (b : Bool). InObject b x.at (held_object x.number x.body_at x.content) d × ((g : MessageFault) → InObject b x.at (held_object x.number x.body_at x.content) g → SameOrBehind d g)) (had_before before s inv)
      ((member_judged s x x.content holds le).refused d e);
  taken = λ before s u x holds le inv e. (
    group_next before s u x holds inv e,
    subst (λ (b : Bool). (g : MessageFault) → InObject b x.at (held_object x.number x.body_at x.content) g → ⊥) (had_before before s inv)
        ((member_judged s x x.content holds le).taken u e),
  );
  within = λ before x g le stands. member_within (has_dense_nodes (objects_of_fields before)) x.number x.at x.body_at x.content g le stands;
}

pub group_judged : (at : ℕ) (bytes : List ℕ) → AreBytes bytes → Judged (group_in at bytes) (StandsIn InMember at bytes)
unfolding group_in
group_judged at bytes are = message_judged group_step GroupInv InMember group_faulty [] at bytes are refl

group_within : (at : ℕ) (bytes : List ℕ) (g : MessageFault) → StandsIn InMember at bytes g → (at ≤ fault_offset g) × (fault_offset g < at + length bytes)
group_within at bytes g stands = message_within group_step GroupInv InMember group_faulty at bytes g stands

-- ---- a string table more

-- the block has a table exactly where one came
abbrev TableKnown : Option (List (List ℕ)) → List Part → Type 0
TableKnown None before = before ≡ []
TableKnown (Some texts) before = before ≡ [] → ⊥

table_judged : (old : Option (List (List ℕ))) (block : Block) (before : List Part) (part : Part) → AreBytes part.bytes → part.at < part.body_at → TableKnown old before
    → Judged (cond (is_some old) (Err (faults.Repeated part.at 1)) (texts_in part.body_at part.bytes >>= λ texts. Ok (record block { texts = Some texts }))) (InTable before (Some part))
table_judged (Some old) block before part are le known = record {
  refused = λ d e.
      let same = err_is (faults.Repeated part.at 1) d e in (
        inl (known, sym same),
        λ g stands. elim stands [
          | inl h ↦ inl (h.1 ∙ same)
          | inr h ↦ inr (omega (arith, ap fault_offset same, le, (table_within part.body_at part.bytes g h).0))
        ],
      );
  taken = λ t e. absurd (err_not_ok (faults.Repeated part.at 1) t e);
}
table_judged None block before part are le known =
    let judged = texts_judged part.body_at part.bytes are in
    record {
      refused = λ d e.
          let r = judged.refused d (err_part (texts_in part.body_at part.bytes) (λ texts. record block { texts = Some texts }) d e) in (
            inr r.0,
            λ g stands. elim stands [
              | inl h ↦ absurd (h.0 known)
              | inr h ↦ r.1 g h
            ],
          );
      taken = λ t e g stands.
          let u = parts_of (texts_in part.body_at part.bytes) (λ texts. Ok (record block { texts = Some texts })) t e in
          elim stands [
            | inl h ↦ h.0 known
            | inr h ↦ judged.taken u.0 u.1 g h
          ];
    }

-- ---- a group more

group_more : (block : Block) (part : Part) → AreBytes part.bytes → Judged (with_group block part.body_at part.bytes) (InGroup (Some part))
group_more block part are =
    let judged = group_judged part.body_at part.bytes are in
    let f : List Object → Block = λ objects. record block { objects = block.objects ++ objects } in
    record {
      refused = λ d e. judged.refused d (err_part (group_in part.body_at part.bytes) f d e);
      taken = λ t e.
          let u = parts_of (group_in part.body_at part.bytes) (λ objects. Ok (f objects)) t e in
          judged.taken u.0 u.1;
    }

-- ---- one field

left_alone : (m : Result Block MessageFault) (P : MessageFault → Type 0) → Judged m P → Judged m (λ g. P g ⊎ ⊥)
left_alone m P judged = record {
  refused = λ d e. let r = judged.refused d e in (inl r.0, λ g stands. elim stands [ inl h ↦ r.1 g h | inr h ↦ absurd h ]);
  taken = λ t e g stands. elim stands [ inl h ↦ judged.taken t e g h | inr h ↦ h ];
}

right_alone : (m : Result Block MessageFault) (P : MessageFault → Type 0) → Judged m P → Judged m (λ g. ⊥ ⊎ P g)
right_alone m P judged = record {
  refused = λ d e. let r = judged.refused d e in (inr r.0, λ g stands. elim stands [ inl h ↦ absurd h | inr h ↦ r.1 g h ]);
  taken = λ t e g stands. elim stands [ inl h ↦ h | inr h ↦ judged.taken t e g h ];
}

neither : (block : Block) → Judged {S = Block} (Ok block) (λ g. ⊥ ⊎ ⊥)
neither block = left_alone (Ok block) (λ g. ⊥) (nothing block)

part_judged : (one two : Bool) (block : Block) (before : List Part) (part : Part) → AreBytes part.bytes → part.at < part.body_at → TableKnown block.texts before → (one && two) ≡ false
    → Judged (cond one (with_table block part.at part.body_at part.bytes) (cond two (with_group block part.body_at part.bytes) (Ok block))) (λ g. InTable before (cond one (Some part) None) g ⊎ InGroup (cond two (Some part) None) g)
part_judged true true block before part are le known apart = absurd (true_not_false apart)
part_judged true false block before part are le known apart =
    left_alone (with_table block part.at part.body_at part.bytes) (InTable before (Some part)) (table_judged block.texts block before part are le known)
part_judged false true block before part are le known apart =
    right_alone (with_group block part.body_at part.bytes) (InGroup (Some part)) (group_more block part are)
part_judged false false block before part are le known apart = neither block

field_judged : (block : Block) (before : List Part) (field : WireField) (content : Content) → InBytes content → field.at < field.body_at → TableKnown block.texts before
    → Judged (with_field block field content) (λ g. InTable before (held_part (eqb field.number 1) field.at field.body_at content) g ⊎ InGroup (held_part (eqb field.number 2) field.at field.body_at content) g)
field_judged block before field (Varint n) holds le known = neither _
field_judged block before field (Fixed64 n) holds le known = neither block
field_judged block before field (Bytes bytes) holds le known =
    part_judged (eqb field.number 1) (eqb field.number 2) block before (record { at = field.at; body_at = field.body_at; bytes = bytes }) holds le known (apart_1_2 field.number)
field_judged block before field (Fixed32 n) holds le known = neither block

in_table_within : (one : Bool) (before : List Part) (at body_at : ℕ) (content : Content) (g : MessageFault) → at < body_at → InTable before (held_part one at body_at content) g → (at ≤ fault_offset g) × (fault_offset g < body_at + inner_length content)
in_table_within one before at body_at (Varint n) g le stands = absurd stands
in_table_within one before at body_at (Fixed64 n) g le stands = absurd stands
in_table_within true before at body_at (Bytes bytes) g le (inl h) = (omega (arith, ap fault_offset h.1), omega (arith, le, ap fault_offset h.1))
in_table_within true before at body_at (Bytes bytes) g le (inr h) =
    let w = table_within body_at bytes g h in
    (omega (arith, le, w.0), w.1)
in_table_within false before at body_at (Bytes bytes) g le stands = absurd stands
in_table_within one before at body_at (Fixed32 n) g le stands = absurd stands

in_group_within : (two : Bool) (at body_at : ℕ) (content : Content) (g : MessageFault) → at < body_at → InGroup (held_part two at body_at content) g → (at ≤ fault_offset g) × (fault_offset g < body_at + inner_length content)
in_group_within two at body_at (Varint n) g le stands = absurd stands
in_group_within two at body_at (Fixed64 n) g le stands = absurd stands
in_group_within true at body_at (Bytes bytes) g le stands =
    let w = group_within body_at bytes g stands in
    (omega (arith, le, w.0), w.1)
in_group_within false at body_at (Bytes bytes) g le stands = absurd stands
in_group_within two at body_at (Fixed32 n) g le stands = absurd stands

-- ---- a block

abbrev BlockInv : List WireField → Block → Type 0
BlockInv before s = TableKnown s.texts (parts 1 before)

some_behind : (before others : List Part) (part : Part) → before ++ part ∷ others ≡ [] → ⊥
some_behind [] others part e = not_empty part others e
some_behind (first ∷ before) others part e = not_empty first (before ++ part ∷ others) e

known_after : (old new : Option (List (List ℕ))) (before more : List Part) → TableKnown old before → TableFrom old more new → TableKnown new (before ++ more)
known_after None new before [] known from = subst (λ (o : Option (List (List ℕ))). TableKnown o (before ++ [])) (sym from) (append-nil before ∙ known)
known_after None new before (part ∷ []) known from = subst (λ (o : Option (List (List ℕ))). TableKnown o (before ++ part ∷ [])) (sym from.2) (some_behind before [] part)
known_after None new before (part ∷ other ∷ others) known from = absurd from
known_after (Some old) new before more known from =
    subst (λ (o : Option (List (List ℕ))). TableKnown o (before ++ more)) (sym from.1)
    (λ e. known (sym (append-nil before) ∙ sym (ap (λ (l : List Part). before ++ l) from.0) ∙ e))

block_next : (before : List WireField) (s u : Block) (x : WireField) → HoldsBytes x → BlockInv before s → block_step s x ≡ Ok u → BlockInv (before ++ x ∷ []) u
block_next before s u x holds inv e =
    let by = (field_means s x x.content (left_of []) u holds).0 (u, e, (same_block u u).0 refl) in
    subst (λ (l : List Part). TableKnown u.texts l)
    (sym (filter_map-append (λ (field : WireField). held_part (eqb field.number 1) field.at field.body_at field.content) before (x ∷ [])))
    (known_after s.texts u.texts (parts 1 before) (parts 1 (x ∷ [])) inv by.0.table)

block_faulty : Faulty block_step BlockInv InBlock
block_faulty = record {
  refused = λ before s x d holds le inv e. (field_judged s (parts 1 before) x x.content holds le inv).refused d e;
  taken = λ before s u x holds le inv e. (block_next before s u x holds inv e, (field_judged s (parts 1 before) x x.content holds le inv).taken u e);
  within = λ before x g le stands. elim stands [
    | inl h ↦ in_table_within (eqb x.number 1) (parts 1 before) x.at x.body_at x.content g le h
    | inr h ↦ in_group_within (eqb x.number 2) x.at x.body_at x.content g le h
  ];
}

pub block_judged : (at : ℕ) (bytes : List ℕ) → AreBytes bytes → Judged (block_in at bytes) (StandsIn InBlock at bytes)
unfolding block_in
block_judged at bytes are = message_judged block_step BlockInv InBlock block_faulty no_block at bytes are refl

-- ---- the law

-- the fault is answered exactly where it is the first that stands there
first_only : {S : Type 0} (m : Result S MessageFault) (inside : InField) (at : ℕ) (bytes : List ℕ) → Judged m (StandsIn inside at bytes) → (fault : MessageFault) → (m ≡ Err fault) ↔ IsFirst inside at bytes fault
first_only {S = S} m inside at bytes judged fault = (
  λ e.
      let r = judged.refused fault e in
      record {
        stands = r.0;
        first = λ other stands. elim (r.1 other stands) [
          | inl same ↦ omega (arith, ap fault_offset same)
          | inr behind ↦ omega (arith, behind)
        ];
      },
  λ is. by m is refl,
)
  where
    by : (r : Result S MessageFault) → IsFirst inside at bytes fault → m ≡ r → m ≡ Err fault
    by (Ok t) is e = absurd (judged.taken t e fault is.stands)
    by (Err d) is e =
        let told = judged.refused d e in
        elim (told.1 fault is.stands) [
          | inl same ↦ e ∙ ap Err (sym same)
          | inr behind ↦ absurd (omega (arith, behind, is.first d told.0))
        ]

pub block_fault : (at : ℕ) (bytes : List ℕ) → AreBytes bytes → (fault : MessageFault) → (block_in at bytes ≡ Err fault) ↔ IsFirst InBlock at bytes fault
block_fault at bytes are fault = first_only (block_in at bytes) InBlock at bytes (block_judged at bytes are) fault

pub header_fault : (at : ℕ) (bytes : List ℕ) → AreBytes bytes → (fault : MessageFault) → (features_in at bytes ≡ Err fault) ↔ IsFirst InNone at bytes fault
header_fault at bytes are fault = first_only (features_in at bytes) InNone at bytes (features_judged at bytes are) fault

pub object_fault : (kind : ObjectKind) (at : ℕ) (bytes : List ℕ) → AreBytes bytes → (fault : MessageFault) → (numbers_in (shape_of kind) at bytes ≡ Err fault) ↔ IsFirst (InNumbers kind) at bytes fault
object_fault kind at bytes are fault = first_only (numbers_in (shape_of kind) at bytes) (InNumbers kind) at bytes (numbers_judged kind at bytes are) fault
