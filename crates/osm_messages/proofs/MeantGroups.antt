-- Groups are what the format says they are.
use Rattle.std.proofs.Common.{◌≡◌, ℕ, ◌+◌, ◌≤◌, eqb, cond, ◌||◌, ◌&&◌, Bool, true, false, List, [], ◌∷◌, ◌++◌, length, Option, Some, None, Result, Ok, Err, ◌↔◌, All, refl, sym, ap, ◌∙◌, subst, arith, inl, inr}
use Rattle.std.proofs.lemmas.Bool.{cases_Bool}
use Rattle.std.proofs.lemmas.List.{append-nil}
use Rattle.std.proofs.lemmas.List.Elements.{All-nil, All-cons, All-head, All-tail}
use Rattle.std.proofs.lemmas.List.Folds.{list_any-append}
use Rattle.std.specs.List.{cons_option}
use Rattle.wire_read.specs.Varint.{AreBytes}
use Rattle.wire_read.specs.Fields.{Content, Varint, Fixed64, Bytes, Fixed32, WireField}
use Rattle.osm_messages.specs.declared.fault.MessageFault.{MessageFault}
use Rattle.osm_messages.specs.declared.fault.MessageFault.TheVariants as faults
use Rattle.osm_messages.specs.declared.kind.ObjectKind.{ObjectKind}
use Rattle.osm_messages.specs.declared.kind.ObjectKind.TheVariants as kinds
use Rattle.osm_messages.specs.Walks.{◌>>=◌, with_bytes}
use Rattle.osm_messages.specs.Numbers.{shape_of, numbers_in}
use Rattle.osm_messages.specs.Groups.{Object, is_dense, has_dense, with_object, with_dense, object_of, with_member, group_step, group_in}
use Rattle.osm_messages.specs.Means.{kind_of_field, object_by, held_object, objects_of_fields, is_dense_nodes, dense_among, SpellsObject, IsPrimitiveGroup}
use Rattle.osm_messages.proofs.Meant.{ok_is, parts_of, InBytes, HoldsBytes, IsMeant, message_means, moved, stopped, one_more}
use Rattle.osm_messages.proofs.MeantNumbers.{object_means}

-- ---- at most one DenseNodes

-- none where there was one, and at most one else
abbrev pub OneDense : Bool → List Object → Type 0
OneDense had [] = Unit {0}
OneDense had (object ∷ objects) = ((is_dense object.kind && had) ≡ false) × OneDense (is_dense object.kind || had) objects

abbrev count_of : Bool → ℕ
count_of b = cond {A = ℕ} b 1 0

counted : (dense : Bool) (object : Object) (others : List Object) → length (cond dense (object ∷ others) others) ≡ count_of dense + length others
counted true object others = omega arith
counted false object others = omega arith

one_by : (dense had : Bool) (count : ℕ) (One : Bool → Type 0) → ((h : Bool) → One h ↔ (count + count_of h ≤ 1)) → (((dense && had) ≡ false) × One (dense || had)) ↔ ((count_of dense + count) + count_of had ≤ 1)
one_by true true count One rest = (λ w. absurd (true_not_false w.0), λ few. absurd (omega arith))
  where
    true_not_false : true ≡ false → ⊥
    true_not_false e = cc
one_by true false count One rest = (λ w. omega (arith, (rest true).0 w.1), λ few. (refl, (rest true).1 (omega arith)))
one_by false true count One rest = (λ w. omega (arith, (rest true).0 w.1), λ few. (refl, (rest true).1 (omega arith)))
one_by false false count One rest = (λ w. omega (arith, (rest false).0 w.1), λ few. (refl, (rest false).1 (omega arith)))

pub dense_same : (kind : ObjectKind) → is_dense kind ≡ is_dense_nodes kind
dense_same kinds.Node = refl
dense_same kinds.DenseNodes = refl
dense_same kinds.Way = refl
dense_same kinds.Relation = refl

one_dense : (objects : List Object) (had : Bool) → OneDense had objects ↔ (length (dense_among objects) + count_of had ≤ 1)
one_dense [] true = (λ _. omega arith, λ _. tt)
one_dense [] false = (λ _. omega arith, λ _. tt)
one_dense (object ∷ objects) had =
    let both = one_by (is_dense object.kind) had (length (dense_among objects)) (λ h. OneDense h objects) (one_dense objects) in
    let count : length (dense_among (object ∷ objects)) ≡ count_of (is_dense object.kind) + length (dense_among objects) =
    ap (λ b. length (cond b (object ∷ dense_among objects) (dense_among objects))) (sym (dense_same object.kind)) ∙ counted (is_dense object.kind) object (dense_among objects) in (
      λ w. omega (arith, both.0 w, count),
      λ few. both.1 (omega (arith, few, count)),
    )

-- ---- one object more

abbrev pub GroupBehind : List Object → List Object → List Object → Type 0
GroupBehind objects more t = (t ≡ objects ++ more) × All SpellsObject more × OneDense (has_dense objects) more

-- the fault or the object
abbrev pub add : Bool → List Object → ℕ → Object → Result (List Object) MessageFault
add again objects at object = cond again (Err (faults.Repeated at 2)) (with_object objects object)

or_first : (a b : Bool) → (a || (b || false)) ≡ (b || a)
or_first true true = refl
or_first true false = refl
or_first false true = refl
or_first false false = refl

dense_behind : (objects : List Object) (object : Object) → has_dense (objects ++ object ∷ []) ≡ (is_dense object.kind || has_dense objects)
dense_behind objects object = list_any-append (λ (o : Object). is_dense o.kind) objects (object ∷ []) ∙ or_first (has_dense objects) (is_dense object.kind)

added : (again : Bool) (objects more t : List Object) (at : ℕ) (object : Object) → AreBytes object.bytes → (is_dense object.kind && has_dense objects) ≡ again
    → ((u : List Object) × (add again objects at object ≡ Ok u) × GroupBehind u more t) ↔ GroupBehind objects (object ∷ more) t
added true objects more t at object are is =
    stopped (faults.Repeated at 2) (λ u. GroupBehind u more t) (λ w. never (sym is ∙ w.2.0))
  where
    never : true ≡ false → ⊥
    never e = cc
added false objects more t at object are is =
    let shape = shape_of object.kind in
    let spelled = object_means object.kind object.at object.bytes are in
    let here = objects ++ object ∷ [] in (
      λ w.
          let numbers = parts_of (numbers_in shape object.at object.bytes) (λ _. Ok here) w.0 w.1 in
          let same : here ≡ w.0 = ok_is here w.0 numbers.2 in
          let behind : GroupBehind here more t = subst (λ u. GroupBehind u more t) (sym same) w.2 in (
            (one_more objects more t object).0 behind.0,
            All-cons SpellsObject object more (numbers.0, (spelled numbers.0).0 numbers.1) behind.1,
            (is, subst (λ (h : Bool). OneDense h more) (dense_behind objects object) behind.2),
          ),
      λ w.
          let numbers = All-head SpellsObject object more w.1 in (
            here,
            ap (λ r. r >>= λ _. Ok here) ((spelled numbers.0).1 numbers.1),
            ((one_more objects more t object).1 w.0, All-tail SpellsObject object more w.1, subst (λ (h : Bool). OneDense h more) (sym (dense_behind objects object)) w.2.1),
          ),
    )

-- ---- one field more

-- an object of a kind, if it is one
abbrev pub add_kind : Option ObjectKind → List Object → WireField → List ℕ → Result (List Object) MessageFault
add_kind None objects field bytes = Ok objects
add_kind (Some kinds.Node) objects field bytes = with_object objects (object_of kinds.Node field bytes)
add_kind (Some kinds.DenseNodes) objects field bytes = with_dense objects field.at (object_of kinds.DenseNodes field bytes)
add_kind (Some kinds.Way) objects field bytes = with_object objects (object_of kinds.Way field bytes)
add_kind (Some kinds.Relation) objects field bytes = with_object objects (object_of kinds.Relation field bytes)

pub member_kind : (objects : List Object) (field : WireField) (bytes : List ℕ) → with_member objects field bytes ≡ add_kind (kind_of_field field.number) objects field bytes
member_kind objects field bytes =
    elim (cases_Bool (eqb field.number 1)) [
      | inl e ↦ rw e refl
      | inr e ↦ rw e (elim (cases_Bool (eqb field.number 2)) [
        | inl f ↦ rw f refl
        | inr f ↦ rw f (elim (cases_Bool (eqb field.number 3)) [
          | inl g ↦ rw g refl
          | inr g ↦ rw g (elim (cases_Bool (eqb field.number 4)) [
            | inl h ↦ rw h refl
            | inr h ↦ rw h refl
          ])
        ])
      ])
    ]

kind_added : (kind : Option ObjectKind) (objects more t : List Object) (field : WireField) (bytes : List ℕ) → AreBytes bytes
    → ((u : List Object) × (add_kind kind objects field bytes ≡ Ok u) × GroupBehind u more t) ↔ GroupBehind objects (cons_option (object_by field.body_at bytes kind) more) t
kind_added None objects more t field bytes are = moved objects (λ u. GroupBehind u more t)
kind_added (Some kinds.Node) objects more t field bytes are = added false objects more t field.at (object_of kinds.Node field bytes) are refl
kind_added (Some kinds.DenseNodes) objects more t field bytes are = added (has_dense objects) objects more t field.at (object_of kinds.DenseNodes field bytes) are refl
kind_added (Some kinds.Way) objects more t field bytes are = added false objects more t field.at (object_of kinds.Way field bytes) are refl
kind_added (Some kinds.Relation) objects more t field bytes are = added false objects more t field.at (object_of kinds.Relation field bytes) are refl

member_added : (objects more t : List Object) (field : WireField) (bytes : List ℕ) → AreBytes bytes
    → ((u : List Object) × (with_member objects field bytes ≡ Ok u) × GroupBehind u more t) ↔ GroupBehind objects (cons_option (object_by field.body_at bytes (kind_of_field field.number)) more) t
member_added objects more t field bytes are =
    subst (λ (r : Result (List Object) MessageFault). ((u : List Object) × (r ≡ Ok u) × GroupBehind u more t) ↔ GroupBehind objects (cons_option (object_by field.body_at bytes (kind_of_field field.number)) more) t)
    (sym (member_kind objects field bytes))
    (kind_added (kind_of_field field.number) objects more t field bytes are)

pub held_added : (objects more t : List Object) (field : WireField) (content : Content) → InBytes content
    → ((u : List Object) × (with_bytes objects content (with_member objects field) ≡ Ok u) × GroupBehind u more t) ↔ GroupBehind objects (cons_option (held_object field.number field.body_at content) more) t
held_added objects more t field (Varint n) holds = moved objects (λ u. GroupBehind u more t)
held_added objects more t field (Fixed64 n) holds = moved objects (λ u. GroupBehind u more t)
held_added objects more t field (Bytes bytes) holds = member_added objects more t field bytes holds
held_added objects more t field (Fixed32 n) holds = moved objects (λ u. GroupBehind u more t)

-- ---- the group

abbrev GroupFrom : List Object → List WireField → List Object → Type 0
GroupFrom objects fields t = GroupBehind objects (objects_of_fields fields) t

group_meant : IsMeant group_step HoldsBytes GroupFrom
group_meant = record {
  here = λ s t. (
    λ e. (sym e ∙ sym (append-nil s), All-nil SpellsObject, tt),
    λ r. sym (append-nil s) ∙ sym r.0,
  );
  there = λ s t field fields holds. held_added s (objects_of_fields fields) t field field.content holds;
}

pub group_means : (at : ℕ) (bytes : List ℕ) → AreBytes bytes → (objects : List Object) → (group_in at bytes ≡ Ok objects) ↔ IsPrimitiveGroup at bytes objects
unfolding group_in
group_means at bytes are objects =
    let both = message_means group_step GroupFrom group_meant [] objects at bytes are in (
      λ e.
          let by = both.0 e in
          let same = by.leads.0 in
          let few : length (dense_among (objects_of_fields by.fields)) ≤ 1 = omega (arith, (one_dense (objects_of_fields by.fields) false).0 by.leads.2) in
          record {
            fields = by.fields;
            spells = by.spells;
            objects_are = same;
            one_dense = subst (λ (l : List Object). length (dense_among l) ≤ 1) (sym same) few;
            each_spelled = subst (λ (l : List Object). All SpellsObject l) (sym same) by.leads.1;
          },
      λ is.
          let few : length (dense_among (objects_of_fields is.fields)) + count_of false ≤ 1 = omega (arith, subst (λ (l : List Object). length (dense_among l) ≤ 1) is.objects_are is.one_dense) in
          both.1 (record {
            fields = is.fields;
            spells = is.spells;
            leads = (is.objects_are, subst (λ (l : List Object). All SpellsObject l) is.objects_are is.each_spelled, (one_dense (objects_of_fields is.fields) false).1 few);
          }),
    )
