-- No fault that is computed of bytes is want of memory.
use Rattle.std.specs.Prelude.{◌==◌, is_some}
use Rattle.std.proofs.Common.{Some, ℕ, ◌+◌, Bool, true, false, cond, List, [], ◌∷◌, ◌++◌, Option, None, Result, Ok, Err}
use Rattle.wire_read.specs.declared.fault.WireFault.{WireFault}
use Rattle.wire_read.specs.Fields.{Content, Varint, Fixed64, Bytes, Fixed32, WireField, Listed, message_of, packed_of}
use Rattle.osm_messages.specs.declared.fault.MessageFault.{MessageFault}
use Rattle.osm_messages.specs.declared.kind.ObjectKind.TheVariants as object_kinds
use Rattle.osm_messages.specs.Walks.{◌>>=◌, steps, with_end, walk, with_bytes}
use Rattle.osm_messages.specs.Headers.{feature_step, features_in}
use Rattle.osm_messages.specs.Texts.{text_step, texts_in}
use Rattle.osm_messages.specs.Numbers.{Shape, is_field_among, shape_of, with_number, with_packed, with_held, number_step, numbers_in}
use Rattle.osm_messages.specs.Groups.{Object, has_dense, with_object as with_one, with_member, object_of, group_step, group_in, with_dense}
use Rattle.osm_messages.specs.Blocks.{Block, no_block, with_part, with_field, block_step, block_in, with_table, with_group}
use Rattle.osm_messages.specs.declared.fault.MessageFault.TheVariants as faults

-- a value, or a fault other than want of memory
abbrev pub Spelled : {A : Type 0} → Result A MessageFault → Type 0
Spelled (Ok x) = Unit {0}
Spelled (Err (faults.Wire fault)) = Unit {0}
Spelled (Err (faults.Repeated at number)) = Unit {0}
Spelled (Err faults.OutOfMemory) = ⊥

-- one of two things, whichever it is
pub either : {A : Type 0} (P : A → Type 0) (b : Bool) (x y : A) → P x → P y → P (cond b x y)
either P true x y p q = p
either P false x y p q = q

then-of : {A B : Type 0} (r : Result A MessageFault) (f : A → Result B MessageFault) → Spelled r → ((x : A) → Spelled (f x)) → Spelled (r >>= f)
then-of (Ok x) f h k = k x
then-of (Err fault) f h k = h

steps-of : {S A : Type 0} (step : S → A → Result S MessageFault) → ((s : S) (x : A) → Spelled (step s x)) → (s : S) (xs : List A) → Spelled (steps step s xs)
steps-of step each s [] = tt
steps-of step each s (x ∷ xs) = then-of (step s x) (λ t. steps step t xs) (each s x) (λ t. steps-of step each t xs)

with_end-of : {S : Type 0} (fault : Option WireFault) (s : S) → Spelled (with_end fault s)
with_end-of None s = tt
with_end-of (Some fault) s = tt

walk-of : {S A : Type 0} (step : S → A → Result S MessageFault) → ((s : S) (x : A) → Spelled (step s x)) → (s : S) (list : Listed A) → Spelled (walk step s list)
walk-of step each s list = then-of (steps step s list.items) (λ t. with_end list.fault t) (steps-of step each s list.items) (λ t. with_end-of list.fault t)

with_bytes-of : {S : Type 0} (s : S) (content : Content) (f : List ℕ → Result S MessageFault) → ((bytes : List ℕ) → Spelled (f bytes)) → Spelled (with_bytes s content f)
with_bytes-of s (Varint n) f h = tt
with_bytes-of s (Fixed64 n) f h = tt
with_bytes-of s (Bytes bytes) f h = h bytes
with_bytes-of s (Fixed32 n) f h = tt

pub features_in-of : (at : ℕ) (bytes : List ℕ) → Spelled (features_in at bytes)
unfolding features_in
features_in-of at bytes = walk-of feature_step (λ features field. with_bytes-of features field.content _ (λ held. tt)) [] (message_of at bytes)

texts_in-of : (at : ℕ) (bytes : List ℕ) → Spelled (texts_in at bytes)
unfolding texts_in
texts_in-of at bytes = walk-of text_step (λ texts field. with_bytes-of texts field.content _ (λ held. tt)) [] (message_of at bytes)

with_held-of : (shape : Shape) (number at : ℕ) (content : Content) (numbers : List (ℕ × ℕ)) → Spelled (with_held shape number at content numbers)
with_held-of shape number at (Varint n) numbers = either Spelled _ (with_number number numbers n) (Ok numbers) tt tt
with_held-of shape number at (Fixed64 n) numbers = tt
with_held-of shape number at (Bytes bytes) numbers = either Spelled (is_field_among number shape.lists) (with_packed number numbers at bytes) (Ok numbers) (walk-of (with_number number) (λ s n. tt) numbers (packed_of at bytes)) tt
with_held-of shape number at (Fixed32 n) numbers = tt

numbers_in-of : (shape : Shape) (at : ℕ) (bytes : List ℕ) → Spelled (numbers_in shape at bytes)
unfolding numbers_in
numbers_in-of shape at bytes = walk-of (number_step shape) (λ numbers field. with_held-of shape field.number field.body_at field.content numbers) [] (message_of at bytes)

with_one-of : (objects : List Object) (object : Object) → Spelled (with_one objects object)
with_one-of objects object = then-of (numbers_in (shape_of object.kind) object.at object.bytes) (λ numbers. Ok (objects ++ object ∷ [])) (numbers_in-of (shape_of object.kind) object.at object.bytes) (λ numbers. tt)

with_member-of : (objects : List Object) (field : WireField) (bytes : List ℕ) → Spelled (with_member objects field bytes)
with_member-of objects field bytes =
    either Spelled (field.number == 1) (with_one objects (object_of object_kinds.Node field bytes)) _ (with_one-of objects (object_of object_kinds.Node field bytes))
    (either Spelled (field.number == 2) (with_dense objects field.at (object_of object_kinds.DenseNodes field bytes)) _
    (either Spelled (has_dense objects) (Err (faults.Repeated field.at 2)) (with_one objects (object_of object_kinds.DenseNodes field bytes)) tt (with_one-of objects (object_of object_kinds.DenseNodes field bytes)))
    (either Spelled (field.number == 3) (with_one objects (object_of object_kinds.Way field bytes)) _ (with_one-of objects (object_of object_kinds.Way field bytes))
    (either Spelled (field.number == 4) (with_one objects (object_of object_kinds.Relation field bytes)) (Ok objects) (with_one-of objects (object_of object_kinds.Relation field bytes)) tt)))

group_in-of : (at : ℕ) (bytes : List ℕ) → Spelled (group_in at bytes)
unfolding group_in
group_in-of at bytes = walk-of group_step (λ objects field. with_bytes-of objects field.content _ (with_member-of objects field)) [] (message_of at bytes)

with_part-of : (block : Block) (field : WireField) (bytes : List ℕ) → Spelled (with_part block field bytes)
with_part-of block field bytes =
    either Spelled (field.number == 1) (with_table block field.at field.body_at bytes) _
    (either Spelled (is_some block.texts) (Err (faults.Repeated field.at 1)) (texts_in field.body_at bytes >>= λ texts. Ok (record block { texts = Some texts })) tt
    (then-of (texts_in field.body_at bytes) (λ texts. Ok (record block { texts = Some texts })) (texts_in-of field.body_at bytes) (λ texts. tt)))
    (either Spelled (field.number == 2) (with_group block field.body_at bytes) (Ok block)
    (then-of (group_in field.body_at bytes) (λ objects. Ok (record block { objects = block.objects ++ objects })) (group_in-of field.body_at bytes) (λ objects. tt)) tt)

with_field-of : (block : Block) (field : WireField) (content : Content) → Spelled (with_field block field content)
with_field-of block field (Varint n) = tt
with_field-of block field (Fixed64 n) = tt
with_field-of block field (Bytes bytes) = with_part-of block field bytes
with_field-of block field (Fixed32 n) = tt

pub block_in-of : (at : ℕ) (bytes : List ℕ) → Spelled (block_in at bytes)
unfolding block_in
block_in-of at bytes = walk-of block_step (λ block field. with_field-of block field field.content) no_block (message_of at bytes)
