-- What is read is no more than the bytes that spell it.
use Rattle.std.proofs.Common.{◌≡◌, ℕ, ◌+◌, ◌≤◌, Bool, true, false, cond, eqb, ◌||◌, List, [], ◌∷◌, ◌++◌, length, Option, Some, None, Result, Ok, Err, refl, sym, ap, ◌∙◌, arith, length-append}
use Rattle.std.specs.List.{sum_by}
use Rattle.std.specs.Prelude.{ℤ, is_some}
use Rattle.std.specs.Int.{w64, cast_signed}
use Rattle.std.proofs.lemmas.Bool.{eqb-true}
use Rattle.std.proofs.lemmas.List.Sums.{sum_by-cons, sum_by_push, sum_by-append}
use Rattle.wire_read.specs.declared.fault.WireFault.{WireFault}
use Rattle.wire_read.specs.Fields.{Content, Varint, Fixed64, Bytes, Fixed32, WireField, Listed, message_of, packed_of}
use Rattle.wire_read.proofs.FieldWeights.{content_weight, field_weight, packed_weighs, message_of_weighs}
use Rattle.osm_messages.specs.declared.fault.MessageFault.{MessageFault}
use Rattle.osm_messages.specs.declared.fault.MessageFault.TheVariants as faults
use Rattle.osm_messages.specs.declared.kind.ObjectKind.TheVariants as kinds
use Rattle.osm_messages.specs.Walks.{◌>>=◌, steps, with_end, walk, message, with_bytes}
use Rattle.osm_messages.specs.Numbers.{Shape, is_field_among, shape_of, with_number, with_packed, with_held, number_step, numbers_in, numbered}
use Rattle.osm_messages.specs.Lists.{Lists, number_lists, listed_numbers}
use Rattle.osm_messages.specs.Texts.{texts_in}
use Rattle.osm_messages.specs.Groups.{Object, has_dense, with_object, with_dense, object_of, with_member, group_step, group_in}
use Rattle.osm_messages.specs.Blocks.{Block, no_block, with_table, with_group, with_part, with_scalar, with_field, block_step, block_in}
use Rattle.osm_messages.specs.Sizes.{object_bytes, numbers_held}

-- ---- steps that add at most a weight each

step_weighs : {S : Type 0} (measure : S → ℕ) (s t : S) (weight others : ℕ) (r : Result S MessageFault) (go : S → Result S MessageFault)
    → ((u : S) → r ≡ Ok u → measure u ≤ measure s + weight) → ((u : S) → go u ≡ Ok t → measure t ≤ measure u + others) → (r >>= go) ≡ Ok t → measure t ≤ measure s + (weight + others)
step_weighs measure s t weight others (Ok u) go one rest e = omega (arith, one u refl, rest u e)
step_weighs measure s t weight others (Err d) go one rest e = absurd (cc e)

steps_weigh : {S A : Type 0} (step : S → A → Result S MessageFault) (measure : S → ℕ) (weight : A → ℕ) → ((s : S) (x : A) (t : S) → step s x ≡ Ok t → measure t ≤ measure s + weight x)
    → (s t : S) (xs : List A) → steps step s xs ≡ Ok t → measure t ≤ measure s + sum_by weight xs
steps_weigh step measure weight each s t [] e = let same : s ≡ t = cc e in omega (arith, ap measure same)
steps_weigh step measure weight each s t (x ∷ xs) e =
    let all = step_weighs measure s t (weight x) (sum_by weight xs) (step s x) (λ u. steps step u xs) (λ u f. each s x u f) (λ u f. steps_weigh step measure weight each u t xs f) e in
    omega (arith, all, sum_by-cons weight x xs)

before_end : {S : Type 0} (r : Result S MessageFault) (fault : Option WireFault) (t : S) → (r >>= λ u. with_end fault u) ≡ Ok t → r ≡ Ok t
before_end (Ok u) None t e = e
before_end (Ok u) (Some d) t e = absurd (cc e)
before_end (Err d) fault t e = absurd (cc e)

walk_weighs : {S A : Type 0} (step : S → A → Result S MessageFault) (measure : S → ℕ) (weight : A → ℕ) → ((s : S) (x : A) (t : S) → step s x ≡ Ok t → measure t ≤ measure s + weight x)
    → (s t : S) (list : Listed A) → walk step s list ≡ Ok t → measure t ≤ measure s + sum_by weight list.items
walk_weighs step measure weight each s t list e =
    steps_weigh step measure weight each s t list.items (before_end (steps step s list.items) list.fault t e)

message_weighs : {S : Type 0} (step : S → WireField → Result S MessageFault) (measure : S → ℕ) → ((s : S) (x : WireField) (t : S) → step s x ≡ Ok t → measure t ≤ measure s + field_weight x)
    → (s t : S) (at : ℕ) (bytes : List ℕ) → message step s at bytes ≡ Ok t → measure t ≤ measure s + length bytes
message_weighs step measure each s t at bytes e =
    omega (arith, walk_weighs step measure field_weight each s t (message_of at bytes) e, message_of_weighs at bytes)

-- ---- the numbers of an object

abbrev ok_of : {S : Type 0} → S → Result S MessageFault
ok_of s = Ok s

-- nothing more than before
same_weighs : {S : Type 0} (measure : S → ℕ) (s t : S) (weight : ℕ) → ok_of s ≡ Ok t → measure t ≤ measure s + weight
same_weighs measure s t weight e = let same : s ≡ t = cc e in omega (arith, ap measure same)

number_weighs : (field : ℕ) (numbers : List (ℕ × ℕ)) (n : ℕ) (t : List (ℕ × ℕ)) → with_number field numbers n ≡ Ok t → length t ≤ length numbers + 1
number_weighs field numbers n t e =
    let same : numbers ++ (field, n) ∷ [] ≡ t = cc e in
    omega (arith, ap (λ (l : List (ℕ × ℕ)). length l) same, length-append numbers ((field, n) ∷ []))

either_weighs : {S : Type 0} (measure : S → ℕ) (b : Bool) (s t : S) (weight : ℕ) (r : Result S MessageFault) → ((u : S) → r ≡ Ok u → measure u ≤ measure s + weight) → cond b r (Ok s) ≡ Ok t → measure t ≤ measure s + weight
either_weighs measure true s t weight r one e = one t e
either_weighs measure false s t weight r one e = same_weighs measure s t weight e

held_weighs : (shape : Shape) (field at : ℕ) (content : Content) (numbers t : List (ℕ × ℕ)) → with_held shape field at content numbers ≡ Ok t → length t ≤ length numbers + content_weight content
held_weighs shape field at (Varint n) numbers t e =
    either_weighs (λ (l : List (ℕ × ℕ)). length l) (is_field_among field shape.singles || is_field_among field shape.lists) numbers t 1 (with_number field numbers n) (λ u f. number_weighs field numbers n u f) e
held_weighs shape field at (Fixed64 n) numbers t e = same_weighs (λ (l : List (ℕ × ℕ)). length l) numbers t 0 e
held_weighs shape field at (Bytes bytes) numbers t e =
    either_weighs (λ (l : List (ℕ × ℕ)). length l) (is_field_among field shape.lists) numbers t (length bytes) (with_packed field numbers at bytes)
    (λ u f. omega (arith, walk_weighs (with_number field) (λ (l : List (ℕ × ℕ)). length l) (λ (n : ℕ). 1) (λ s n v g. number_weighs field s n v g) numbers u (packed_of at bytes) f, packed_weighs at bytes)) e
held_weighs shape field at (Fixed32 n) numbers t e = same_weighs (λ (l : List (ℕ × ℕ)). length l) numbers t 0 e

-- an object has at most a number for each of its bytes
pub numbers_in-few : (shape : Shape) (at : ℕ) (bytes : List ℕ) (numbers : List (ℕ × ℕ)) → numbers_in shape at bytes ≡ Ok numbers → length numbers ≤ length bytes
unfolding numbers_in
numbers_in-few shape at bytes numbers e =
    omega (arith, message_weighs (number_step shape) (λ (l : List (ℕ × ℕ)). length l) (λ s field t f. held_weighs shape field.number field.body_at field.content s t f) [] numbers at bytes e)

-- ---- list by list

-- a number is in one list at most
abbrev held_in : List (ℕ × ℕ) → ℕ
held_in numbers = numbers_held (number_lists numbers)

more_weighs : (b : Bool) (n : ℕ) (rest : List ℕ) → length (cond b (n ∷ rest) rest) ≡ length rest + cond {A = ℕ} b 1 0
more_weighs true n rest = omega arith
more_weighs false n rest = omega arith

put_weighs : (number field n : ℕ) (rest : List ℕ) → length (cond (eqb number field) (n ∷ rest) rest) ≡ length rest + cond {A = ℕ} (eqb number field) 1 0
put_weighs number field n rest = more_weighs (eqb number field) n rest

other_list : (number a b : ℕ) (p : Bool) → number ≡ a → eqb a b ≡ false → eqb number b ≡ p → cond {A = ℕ} p 1 0 ≡ 0
other_list number a b p is unlike q = ap (λ (r : Bool). cond {A = ℕ} r 1 0) (sym q ∙ (ap (λ (m : ℕ). eqb m b) is ∙ unlike))

one_list : (number : ℕ) → cond {A = ℕ} (eqb number 1) 1 0 + cond {A = ℕ} (eqb number 2) 1 0 + cond {A = ℕ} (eqb number 3) 1 0 + cond {A = ℕ} (eqb number 8) 1 0 + cond {A = ℕ} (eqb number 9) 1 0 + cond {A = ℕ} (eqb number 10) 1 0 ≤ 1
one_list number =
    by_case (eqb number 1) (eqb number 2) (eqb number 3) (eqb number 8) (eqb number 9) (eqb number 10) refl refl refl refl refl refl
  where
    by_case : (a b c d e f : Bool) → eqb number 1 ≡ a → eqb number 2 ≡ b → eqb number 3 ≡ c → eqb number 8 ≡ d → eqb number 9 ≡ e → eqb number 10 ≡ f
        → cond {A = ℕ} a 1 0 + cond {A = ℕ} b 1 0 + cond {A = ℕ} c 1 0 + cond {A = ℕ} d 1 0 + cond {A = ℕ} e 1 0 + cond {A = ℕ} f 1 0 ≤ 1
    by_case true b c d e f p q r s t u = omega (arith, other_list number 1 2 b (eqb-true number 1 p) refl q, other_list number 1 3 c (eqb-true number 1 p) refl r, other_list number 1 8 d (eqb-true number 1 p) refl s, other_list number 1 9 e (eqb-true number 1 p) refl t, other_list number 1 10 f (eqb-true number 1 p) refl u)
    by_case false true c d e f p q r s t u = omega (arith, other_list number 2 3 c (eqb-true number 2 q) refl r, other_list number 2 8 d (eqb-true number 2 q) refl s, other_list number 2 9 e (eqb-true number 2 q) refl t, other_list number 2 10 f (eqb-true number 2 q) refl u)
    by_case false false true d e f p q r s t u = omega (arith, other_list number 3 8 d (eqb-true number 3 r) refl s, other_list number 3 9 e (eqb-true number 3 r) refl t, other_list number 3 10 f (eqb-true number 3 r) refl u)
    by_case false false false true e f p q r s t u = omega (arith, other_list number 8 9 e (eqb-true number 8 s) refl t, other_list number 8 10 f (eqb-true number 8 s) refl u)
    by_case false false false false true f p q r s t u = omega (arith, other_list number 9 10 f (eqb-true number 9 t) refl u)
    by_case false false false false false true p q r s t u = omega arith
    by_case false false false false false false p q r s t u = omega arith

lists_few : (numbers : List (ℕ × ℕ)) → held_in numbers ≤ length numbers
lists_few [] = omega arith
lists_few ((number, n) ∷ numbers) =
    omega (
      arith,
      lists_few numbers,
      one_list number,
      put_weighs number 1 n (numbered 1 numbers),
      put_weighs number 2 n (numbered 2 numbers),
      put_weighs number 3 n (numbered 3 numbers),
      put_weighs number 8 n (numbered 8 numbers),
      put_weighs number 9 n (numbered 9 numbers),
      put_weighs number 10 n (numbered 10 numbers),
    )

listed_few : (r : Result (List (ℕ × ℕ)) MessageFault) (most : ℕ) (lists : Lists) → ((numbers : List (ℕ × ℕ)) → r ≡ Ok numbers → length numbers ≤ most) → listed_numbers r ≡ Ok lists → numbers_held lists ≤ most
listed_few (Ok numbers) most lists few e =
    let same : number_lists numbers ≡ lists = cc e in omega (arith, few numbers refl, lists_few numbers, ap numbers_held same)
listed_few (Err d) most lists few e = absurd (cc e)

-- the lists of an object have at most a number for each of its bytes
pub lists_in-few : (shape : Shape) (at : ℕ) (bytes : List ℕ) (lists : Lists) → listed_numbers (numbers_in shape at bytes) ≡ Ok lists → numbers_held lists ≤ length bytes
lists_in-few shape at bytes lists e = listed_few (numbers_in shape at bytes) (length bytes) lists (λ numbers f. numbers_in-few shape at bytes numbers f) e

-- ---- the objects of a block

object_weighs : (objects : List Object) (object : Object) (t : List Object) → with_object objects object ≡ Ok t → object_bytes t ≤ object_bytes objects + length object.bytes
object_weighs objects object t e = by_result (numbers_in (shape_of object.kind) object.at object.bytes) e
  where
    by_result : (r : Result (List (ℕ × ℕ)) MessageFault) → (r >>= λ numbers. ok_of (objects ++ object ∷ [])) ≡ Ok t → object_bytes t ≤ object_bytes objects + length object.bytes
    by_result (Ok numbers) f =
        let same : objects ++ object ∷ [] ≡ t = cc f in
        omega (arith, ap object_bytes same, sum_by_push (λ (o : Object). length o.bytes) objects object)
    by_result (Err d) f = absurd (cc f)

dense_weighs : (b : Bool) (objects : List Object) (at : ℕ) (object : Object) (t : List Object) → cond b (Err (faults.Repeated at 2)) (with_object objects object) ≡ Ok t → object_bytes t ≤ object_bytes objects + length object.bytes
dense_weighs true objects at object t e = absurd (cc e)
dense_weighs false objects at object t e = object_weighs objects object t e

-- whichever of them it is
choice_weighs : {S : Type 0} (measure : S → ℕ) (b : Bool) (s t : S) (weight : ℕ) (r other : Result S MessageFault) → ((u : S) → r ≡ Ok u → measure u ≤ measure s + weight) → ((u : S) → other ≡ Ok u → measure u ≤ measure s + weight) → cond b r other ≡ Ok t → measure t ≤ measure s + weight
choice_weighs measure true s t weight r other one two e = one t e
choice_weighs measure false s t weight r other one two e = two t e

-- the kinds of objects, from each of them on
abbrev from_relation : List Object → WireField → List ℕ → Result (List Object) MessageFault
from_relation objects field bytes = cond (eqb field.number 4) (with_object objects (object_of kinds.Relation field bytes)) (Ok objects)

abbrev from_way : List Object → WireField → List ℕ → Result (List Object) MessageFault
from_way objects field bytes = cond (eqb field.number 3) (with_object objects (object_of kinds.Way field bytes)) (from_relation objects field bytes)

abbrev from_dense : List Object → WireField → List ℕ → Result (List Object) MessageFault
from_dense objects field bytes = cond (eqb field.number 2) (with_dense objects field.at (object_of kinds.DenseNodes field bytes)) (from_way objects field bytes)

relation_weighs : (objects : List Object) (field : WireField) (bytes : List ℕ) (t : List Object) → from_relation objects field bytes ≡ Ok t → object_bytes t ≤ object_bytes objects + length bytes
relation_weighs objects field bytes t e =
    either_weighs object_bytes (eqb field.number 4) objects t (length bytes) (with_object objects (object_of kinds.Relation field bytes)) (λ u f. object_weighs objects (object_of kinds.Relation field bytes) u f) e

way_weighs : (objects : List Object) (field : WireField) (bytes : List ℕ) (t : List Object) → from_way objects field bytes ≡ Ok t → object_bytes t ≤ object_bytes objects + length bytes
way_weighs objects field bytes t e =
    choice_weighs object_bytes (eqb field.number 3) objects t (length bytes) (with_object objects (object_of kinds.Way field bytes)) (from_relation objects field bytes)
    (λ u f. object_weighs objects (object_of kinds.Way field bytes) u f) (λ u f. relation_weighs objects field bytes u f) e

from_dense_weighs : (objects : List Object) (field : WireField) (bytes : List ℕ) (t : List Object) → from_dense objects field bytes ≡ Ok t → object_bytes t ≤ object_bytes objects + length bytes
from_dense_weighs objects field bytes t e =
    choice_weighs object_bytes (eqb field.number 2) objects t (length bytes) (with_dense objects field.at (object_of kinds.DenseNodes field bytes)) (from_way objects field bytes)
    (λ u f. dense_weighs (has_dense objects) objects field.at (object_of kinds.DenseNodes field bytes) u f) (λ u f. way_weighs objects field bytes u f) e

member_weighs : (objects : List Object) (field : WireField) (bytes : List ℕ) (t : List Object) → with_member objects field bytes ≡ Ok t → object_bytes t ≤ object_bytes objects + length bytes
member_weighs objects field bytes t e =
    choice_weighs object_bytes (eqb field.number 1) objects t (length bytes) (with_object objects (object_of kinds.Node field bytes)) (from_dense objects field bytes)
    (λ u f. object_weighs objects (object_of kinds.Node field bytes) u f) (λ u f. from_dense_weighs objects field bytes u f) e

held_objects_weigh : (objects : List Object) (field : WireField) (content : Content) (t : List Object) → with_bytes objects content (with_member objects field) ≡ Ok t → object_bytes t ≤ object_bytes objects + content_weight content
held_objects_weigh objects field (Varint n) t e = same_weighs object_bytes objects t 1 e
held_objects_weigh objects field (Fixed64 n) t e = same_weighs object_bytes objects t 0 e
held_objects_weigh objects field (Bytes bytes) t e = member_weighs objects field bytes t e
held_objects_weigh objects field (Fixed32 n) t e = same_weighs object_bytes objects t 0 e

group_few : (at : ℕ) (bytes : List ℕ) (objects : List Object) → group_in at bytes ≡ Ok objects → object_bytes objects ≤ length bytes
unfolding group_in
group_few at bytes objects e =
    omega (arith, message_weighs group_step object_bytes (λ s field t f. held_objects_weigh s field field.content t f) [] objects at bytes e)

abbrev block_bytes : Block → ℕ
block_bytes block = object_bytes block.objects

table_weighs : (b : Bool) (r : Result (List (List ℕ)) MessageFault) (block t : Block) (at : ℕ) → cond b (Err (faults.Repeated at 1)) (r >>= λ texts. ok_of (record block { texts = Some texts })) ≡ Ok t → block_bytes t ≤ block_bytes block
table_weighs true r block t at e = absurd (cc e)
table_weighs false (Ok texts) block t at e = let same : record block { texts = Some texts } ≡ t = cc e in omega (arith, ap block_bytes same)
table_weighs false (Err d) block t at e = absurd (cc e)

groups_weigh : (r : Result (List Object) MessageFault) (block t : Block) (most : ℕ) → ((objects : List Object) → r ≡ Ok objects → object_bytes objects ≤ most) → (r >>= λ objects. ok_of (record block { objects = block.objects ++ objects })) ≡ Ok t → block_bytes t ≤ block_bytes block + most
groups_weigh (Ok objects) block t most few e =
    let same : record block { objects = block.objects ++ objects } ≡ t = cc e in
    omega (arith, ap block_bytes same, few objects refl, sum_by-append (λ (o : Object). length o.bytes) block.objects objects)
groups_weigh (Err d) block t most few e = absurd (cc e)

abbrev from_group : Block → WireField → List ℕ → Result Block MessageFault
from_group block field bytes = cond (eqb field.number 2) (with_group block field.body_at bytes) (Ok block)

from_group_weighs : (block : Block) (field : WireField) (bytes : List ℕ) (t : Block) → from_group block field bytes ≡ Ok t → block_bytes t ≤ block_bytes block + length bytes
from_group_weighs block field bytes t e =
    either_weighs block_bytes (eqb field.number 2) block t (length bytes) (with_group block field.body_at bytes)
    (λ u f. groups_weigh (group_in field.body_at bytes) block u (length bytes) (λ objects h. group_few field.body_at bytes objects h) f) e

part_weighs : (block : Block) (field : WireField) (bytes : List ℕ) (t : Block) → with_part block field bytes ≡ Ok t → block_bytes t ≤ block_bytes block + length bytes
part_weighs block field bytes t e =
    choice_weighs block_bytes (eqb field.number 1) block t (length bytes) (with_table block field.at field.body_at bytes) (from_group block field bytes)
    (λ u f. omega (arith, table_weighs (is_some block.texts) (texts_in field.body_at bytes) block u field.at f)) (λ u f. from_group_weighs block field bytes u f) e

three_scalars : (a b c : Bool) (block : Block) (z : ℤ) → block_bytes (cond a (record block { granularity = z }) (cond b (record block { lat_offset = z }) (cond c (record block { lon_offset = z }) block))) ≡ block_bytes block
three_scalars true b c block z = refl
three_scalars false true c block z = refl
three_scalars false false true block z = refl
three_scalars false false false block z = refl

scalar_same : (block : Block) (number n : ℕ) → block_bytes (with_scalar block number n) ≡ block_bytes block
scalar_same block number n = three_scalars (eqb number 17) (eqb number 19) (eqb number 20) block (cast_signed w64 n)

content_weighs : (block : Block) (field : WireField) (content : Content) (t : Block) → with_field block field content ≡ Ok t → block_bytes t ≤ block_bytes block + content_weight content
content_weighs block field (Varint n) t e =
    let same : with_scalar block field.number n ≡ t = cc e in omega (arith, ap block_bytes same, scalar_same block field.number n)
content_weighs block field (Fixed64 n) t e = same_weighs block_bytes block t 0 e
content_weighs block field (Bytes bytes) t e = part_weighs block field bytes t e
content_weighs block field (Fixed32 n) t e = same_weighs block_bytes block t 0 e

-- the objects of a block have at most its bytes
pub block_in-few : (at : ℕ) (bytes : List ℕ) (block : Block) → block_in at bytes ≡ Ok block → object_bytes block.objects ≤ length bytes
unfolding block_in
block_in-few at bytes block e =
    omega (arith, message_weighs block_step block_bytes (λ s field t f. content_weighs s field field.content t f) no_block block at bytes e)
