-- The objects of a group, behind those of the groups before it.
use Rattle.std.proofs.Common.{◌≡◌, ℕ, eqb, cond, ◌||◌, Bool, true, false, List, [], ◌∷◌, ◌++◌, Result, Ok, refl, sym, ap, ◌∙◌, inl, inr, append_assoc}
use Rattle.std.proofs.lemmas.Bool.{cases_Bool}
use Rattle.std.proofs.lemmas.List.{append-nil}
use Rattle.std.proofs.lemmas.List.Folds.{list_any-append}
use Rattle.wire_read.specs.Fields.{Content, Varint, Fixed64, Bytes, Fixed32, WireField, message_of}
use Rattle.osm_messages.specs.declared.fault.MessageFault.{MessageFault}
use Rattle.osm_messages.specs.declared.kind.ObjectKind.TheVariants as kinds
use Rattle.osm_messages.specs.Walks.{◌>>=◌, with_bytes}
use Rattle.osm_messages.specs.Numbers.{shape_of, numbers_in}
use Rattle.osm_messages.specs.Groups.{Object, is_dense, has_dense, with_object, with_dense, object_of, with_member, group_step, group_in}
use Rattle.osm_messages.specs.Passes.{Pass, behind, pass_object, pass_dense, pass_member, pass_step}
use Rattle.osm_messages.proofs.Walks.{bind_assoc, IsSeenAs, walk-seen, left_of, Going, begun}

-- ---- a group behind others

-- the objects of a group, as they are behind others
abbrev seen_behind : List Object → List Object → Pass
seen_behind before objects = (before ++ objects, has_dense objects)

or_last : (a b : Bool) → (a || (b || false)) ≡ cond b true a
or_last true true = refl
or_last true false = refl
or_last false true = refl
or_last false false = refl

pushed : (before objects : List Object) (object : Object) → seen_behind before (objects ++ object ∷ []) ≡ ((before ++ objects) ++ object ∷ [], cond (is_dense object.kind) true (has_dense objects))
pushed before objects object =
    let dense = list_any-append (λ (o : Object). is_dense o.kind) objects (object ∷ []) ∙ or_last (has_dense objects) (is_dense object.kind) in
    rw (dense, append_assoc before objects (object ∷ [])) refl

object-seen : (before objects : List Object) (object : Object) → (with_object objects object >>= λ g. Ok (seen_behind before g)) ≡ pass_object (seen_behind before objects) object
object-seen before objects object =
    let numbers = numbers_in (shape_of object.kind) object.at object.bytes in
    bind_assoc numbers (λ _. Ok (objects ++ object ∷ [])) (λ g. Ok (seen_behind before g))
    ∙ ap (λ p. numbers >>= λ _. Ok p) (pushed before objects object)

dense-seen : (before objects : List Object) (at : ℕ) (object : Object) → (with_dense objects at object >>= λ g. Ok (seen_behind before g)) ≡ pass_dense (seen_behind before objects) at object
dense-seen before objects at object =
    elim (cases_Bool (has_dense objects)) [
      | inl e ↦ rw e refl
      | inr e ↦ rw e (object-seen before objects object ∙ ap (λ b. pass_object (before ++ objects, b) object) e)
    ]

member-seen : (before objects : List Object) (field : WireField) (bytes : List ℕ) → (with_member objects field bytes >>= λ g. Ok (seen_behind before g)) ≡ pass_member (seen_behind before objects) field bytes
member-seen before objects field bytes =
    elim (cases_Bool (eqb field.number 1)) [
      | inl e ↦ rw e (object-seen before objects (object_of kinds.Node field bytes))
      | inr e ↦ rw e (elim (cases_Bool (eqb field.number 2)) [
        | inl f ↦ rw f (dense-seen before objects field.at (object_of kinds.DenseNodes field bytes))
        | inr f ↦ rw f (elim (cases_Bool (eqb field.number 3)) [
          | inl g ↦ rw g (object-seen before objects (object_of kinds.Way field bytes))
          | inr g ↦ rw g (elim (cases_Bool (eqb field.number 4)) [
            | inl h ↦ rw h (object-seen before objects (object_of kinds.Relation field bytes))
            | inr h ↦ rw h refl
          ])
        ])
      ])
    ]

held-seen : (before objects : List Object) (field : WireField) (content : Content) → (with_bytes objects content (with_member objects field) >>= λ g. Ok (seen_behind before g)) ≡ with_bytes (seen_behind before objects) content (pass_member (seen_behind before objects) field)
held-seen before objects field (Varint n) = refl
held-seen before objects field (Fixed64 n) = refl
held-seen before objects field (Bytes bytes) = member-seen before objects field bytes
held-seen before objects field (Fixed32 n) = refl

group-seen : (before : List Object) → IsSeenAs (seen_behind before) group_step pass_step
group-seen before objects field = held-seen before objects field field.content

-- all objects of a pass
abbrev pub objects_of : Result Pass MessageFault → Result (List Object) MessageFault
objects_of pass = pass >>= λ p. Ok p.0

pub group-begun : (before : List Object) (at : ℕ) (bytes : List ℕ) → Going (behind before (group_in at bytes)) (objects_of (left_of pass_step (before, false) (begun at bytes))) (begun at bytes)
unfolding group_in
group-begun before at bytes = record {
  unbroken = refl;
  same =
      sym (bind_assoc (group_in at bytes) (λ g. Ok (seen_behind before g)) (λ p. Ok p.0))
      ∙ ap objects_of (walk-seen (seen_behind before) group_step pass_step (group-seen before) [] (message_of at bytes))
      ∙ ap (λ xs. objects_of (left_of pass_step (xs, false) (begun at bytes))) (append-nil before);
}
