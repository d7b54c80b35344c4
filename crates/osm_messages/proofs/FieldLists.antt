-- The numbers of an object, field by field.
use Rattle.std.proofs.Common.{◌≡◌, ℕ, eqb, cond, ◌||◌, Bool, true, false, List, [], ◌∷◌, ◌++◌, Ok, refl, sym, ap, ◌∙◌, subst, ◌⊎◌, inl, inr, append_assoc}
use Rattle.std.specs.Prelude.{IsTrue}
use Rattle.std.proofs.lemmas.Bool.{cases_Bool, eqb-true}
use Rattle.std.proofs.lemmas.List.{append-nil}
use Rattle.wire_read.specs.Fields.{Content, Varint, Fixed64, Bytes, Fixed32, Listed, message_of, packed_of}
use Rattle.osm_messages.specs.declared.kind.ObjectKind.{ObjectKind}
use Rattle.osm_messages.specs.declared.kind.ObjectKind.TheVariants as kinds
use Rattle.osm_messages.specs.Walks.{◌>>=◌, steps, with_end, walk}
use Rattle.osm_messages.specs.Numbers.{Shape, shape_of, is_field_among, with_number, with_packed, with_held, number_step, numbers_in, numbered}
use Rattle.osm_messages.specs.Lists.{number_lists, listed_numbers, has_list, list_at, with_list, with_value, put_value, put_values, put_held, list_step}
use Rattle.osm_messages.specs.Passes.{spelled, check_held, check_step}
use Rattle.osm_messages.proofs.Walks.{IsSeenAs, walk-seen, with_end-seen, left_of, Going, begun}

-- ---- numbers put behind others

-- numbers of a field
abbrev of_field : ℕ → List ℕ → List (ℕ × ℕ)
of_field field [] = []
of_field field (n ∷ ns) = (field, n) ∷ of_field field ns

steps_values : (values ns : List ℕ) → steps with_value values ns ≡ Ok (values ++ ns)
steps_values values [] = ap (λ xs. Ok xs) (sym (append-nil values))
steps_values values (n ∷ ns) = steps_values (values ++ n ∷ []) ns ∙ ap (λ xs. Ok xs) (append_assoc values (n ∷ []) ns)

steps_numbers : (field : ℕ) (numbers : List (ℕ × ℕ)) (ns : List ℕ) → steps (with_number field) numbers ns ≡ Ok (numbers ++ of_field field ns)
steps_numbers field numbers [] = ap (λ xs. Ok xs) (sym (append-nil numbers))
steps_numbers field numbers (n ∷ ns) =
    steps_numbers field (numbers ++ (field, n) ∷ []) ns ∙ ap (λ xs. Ok xs) (append_assoc numbers ((field, n) ∷ []) (of_field field ns))

pub walk_values : (values : List ℕ) (list : Listed ℕ) → walk with_value values list ≡ with_end list.fault (values ++ list.items)
walk_values values list = ap (λ r. r >>= with_end list.fault) (steps_values values list.items)

pub walk_numbers : (field : ℕ) (numbers : List (ℕ × ℕ)) (list : Listed ℕ) → walk (with_number field) numbers list ≡ with_end list.fault (numbers ++ of_field field list.items)
walk_numbers field numbers list = ap (λ r. r >>= with_end list.fault) (steps_numbers field numbers list.items)

-- ---- the numbers of one field

if_same : (b : Bool) (n : ℕ) (xs ys : List ℕ) → cond b (n ∷ (xs ++ ys)) (xs ++ ys) ≡ cond b (n ∷ xs) xs ++ ys
if_same true n xs ys = refl
if_same false n xs ys = refl

numbered-append : (field : ℕ) (a b : List (ℕ × ℕ)) → numbered field (a ++ b) ≡ numbered field a ++ numbered field b
numbered-append field [] b = refl
numbered-append field ((number, n) ∷ a) b =
    ap (λ xs. cond (eqb number field) (n ∷ xs) xs) (numbered-append field a b)
    ∙ if_same (eqb number field) n (numbered field a) (numbered field b)

numbered-own : (number field : ℕ) (ns : List ℕ) → eqb number field ≡ true → numbered field (of_field number ns) ≡ ns
numbered-own number field [] e = refl
numbered-own number field (n ∷ ns) e = rw e (ap (λ xs. n ∷ xs) (numbered-own number field ns e))

numbered-other : (number field : ℕ) (ns : List ℕ) → eqb number field ≡ false → numbered field (of_field number ns) ≡ []
numbered-other number field [] e = refl
numbered-other number field (n ∷ ns) e = rw e (numbered-other number field ns e)

own : (number field : ℕ) (numbers : List (ℕ × ℕ)) (ns : List ℕ) → eqb number field ≡ true → numbered field (numbers ++ of_field number ns) ≡ numbered field numbers ++ ns
own number field numbers ns e =
    numbered-append field numbers (of_field number ns) ∙ ap (λ xs. numbered field numbers ++ xs) (numbered-own number field ns e)

other : (number field : ℕ) (numbers : List (ℕ × ℕ)) (ns : List ℕ) → eqb number field ≡ false → numbered field (numbers ++ of_field number ns) ≡ numbered field numbers
other number field numbers ns e =
    numbered-append field numbers (of_field number ns)
    ∙ ap (λ xs. numbered field numbers ++ xs) (numbered-other number field ns e)
    ∙ append-nil (numbered field numbers)

-- ---- all lists at once

-- the field is one of those that have a list
abbrev pub IsListed : ℕ → Type 0
IsListed field = (field ≡ 1) ⊎ ((field ≡ 2) ⊎ ((field ≡ 3) ⊎ ((field ≡ 8) ⊎ ((field ≡ 9) ⊎ (field ≡ 10)))))

abbrev AreListed : List ℕ → Type 0
AreListed [] = Unit {0}
AreListed (field ∷ fields) = IsListed field × AreListed fields

among : (field : ℕ) (fields : List ℕ) → AreListed fields → is_field_among field fields ≡ true → IsListed field
among field [] are e = absurd cc
among field (first ∷ fields) are e =
    elim (cases_Bool (eqb field first)) [
      | inl same ↦ subst IsListed (sym (eqb-true field first same)) are.0
      | inr differ ↦ among field fields are.1 (rw differ at e)
    ]

one : IsListed 1
one = inl refl

two : IsListed 2
two = inr (inl refl)

three : IsListed 3
three = inr (inr (inl refl))

eight : IsListed 8
eight = inr (inr (inr (inl refl)))

nine : IsListed 9
nine = inr (inr (inr (inr (inl refl))))

ten : IsListed 10
ten = inr (inr (inr (inr (inr refl))))

pub listed_is : (field : ℕ) → IsTrue (has_list field) → IsListed field
listed_is field e = among field (1 ∷ 2 ∷ 3 ∷ 8 ∷ 9 ∷ 10 ∷ []) (one, (two, (three, (eight, (nine, (ten, tt)))))) e

pub lists-put : (field : ℕ) (numbers : List (ℕ × ℕ)) (ns : List ℕ) → IsListed field → number_lists (numbers ++ of_field field ns) ≡ with_list field (number_lists numbers) (list_at field (number_lists numbers) ++ ns)
lists-put field numbers ns (inl e) =
    rw (e, own 1 1 numbers ns refl, other 1 2 numbers ns refl, other 1 3 numbers ns refl, other 1 8 numbers ns refl, other 1 9 numbers ns refl, other 1 10 numbers ns refl) refl
lists-put field numbers ns (inr (inl e)) =
    rw (e, other 2 1 numbers ns refl, own 2 2 numbers ns refl, other 2 3 numbers ns refl, other 2 8 numbers ns refl, other 2 9 numbers ns refl, other 2 10 numbers ns refl) refl
lists-put field numbers ns (inr (inr (inl e))) =
    rw (e, other 3 1 numbers ns refl, other 3 2 numbers ns refl, own 3 3 numbers ns refl, other 3 8 numbers ns refl, other 3 9 numbers ns refl, other 3 10 numbers ns refl) refl
lists-put field numbers ns (inr (inr (inr (inl e)))) =
    rw (e, other 8 1 numbers ns refl, other 8 2 numbers ns refl, other 8 3 numbers ns refl, own 8 8 numbers ns refl, other 8 9 numbers ns refl, other 8 10 numbers ns refl) refl
lists-put field numbers ns (inr (inr (inr (inr (inl e))))) =
    rw (e, other 9 1 numbers ns refl, other 9 2 numbers ns refl, other 9 3 numbers ns refl, other 9 8 numbers ns refl, own 9 9 numbers ns refl, other 9 10 numbers ns refl) refl
lists-put field numbers ns (inr (inr (inr (inr (inr e))))) =
    rw (e, other 10 1 numbers ns refl, other 10 2 numbers ns refl, other 10 3 numbers ns refl, other 10 8 numbers ns refl, other 10 9 numbers ns refl, own 10 10 numbers ns refl) refl

-- packed numbers
pub put_values-seen : (field : ℕ) (numbers : List (ℕ × ℕ)) (at : ℕ) (bytes : List ℕ) → IsListed field → listed_numbers (with_packed field numbers at bytes) ≡ put_values field (number_lists numbers) at bytes
put_values-seen field numbers at bytes is =
    let list = packed_of at bytes in
    let lists = number_lists numbers in
    ap listed_numbers (walk_numbers field numbers list)
    ∙ with_end-seen number_lists list.fault (numbers ++ of_field field list.items)
    ∙ ap (λ ls. with_end list.fault ls) (lists-put field numbers list.items is)
    ∙ sym (with_end-seen (with_list field lists) list.fault (list_at field lists ++ list.items))
    ∙ ap (λ r. r >>= λ ns. Ok (with_list field lists ns)) (sym (walk_values (list_at field lists) list))

-- one number
pub put_value-seen : (field : ℕ) (numbers : List (ℕ × ℕ)) (n : ℕ) → IsListed field → listed_numbers (with_number field numbers n) ≡ put_value field (number_lists numbers) n
put_value-seen field numbers n is = ap (λ ls. Ok ls) (lists-put field numbers (n ∷ []) is)

-- ---- the fields of an object

-- the field is one of this object's
abbrev IsRead : Shape → ℕ → Type 0
IsRead shape field = (is_field_among field shape.singles || is_field_among field shape.lists) ≡ true

or_right : (a b : Bool) → b ≡ true → (a || b) ≡ true
or_right true b e = refl
or_right false b e = e

held-seen : (shape : Shape) (field at : ℕ) (content : Content) (numbers : List (ℕ × ℕ)) → (IsRead shape field → IsListed field) → listed_numbers (with_held shape field at content numbers) ≡ put_held shape field at content (number_lists numbers)
held-seen shape field at (Varint n) numbers is =
    let single = is_field_among field shape.singles in
    let some = is_field_among field shape.lists in
    elim (cases_Bool (single || some)) [
      | inl e ↦ rw e (put_value-seen field numbers n (is e))
      | inr e ↦ rw e refl
    ]
held-seen shape field at (Fixed64 n) numbers is = refl
held-seen shape field at (Bytes bytes) numbers is =
    let single = is_field_among field shape.singles in
    let some = is_field_among field shape.lists in
    elim (cases_Bool some) [
      | inl e ↦ rw e (put_values-seen field numbers at bytes (is (or_right single some e)))
      | inr e ↦ rw e refl
    ]
held-seen shape field at (Fixed32 n) numbers is = refl

read_by : (shape : Shape) (field : ℕ) → AreListed shape.singles → AreListed shape.lists → IsRead shape field → IsListed field
read_by shape field singles lists e =
    elim (cases_Bool (is_field_among field shape.singles)) [
      | inl single ↦ among field shape.singles singles single
      | inr other ↦ among field shape.lists lists (rw other at e)
    ]

-- each field that is read has a list
pub read_is_listed : (kind : ObjectKind) (field : ℕ) → IsRead (shape_of kind) field → IsListed field
read_is_listed kinds.Node field e = read_by (shape_of kinds.Node) field (one, (eight, (nine, tt))) (two, (three, tt)) e
read_is_listed kinds.DenseNodes field e = read_by (shape_of kinds.DenseNodes) field tt (one, (eight, (nine, (ten, tt)))) e
read_is_listed kinds.Way field e = read_by (shape_of kinds.Way) field (one, tt) (two, (three, (eight, tt))) e
read_is_listed kinds.Relation field e = read_by (shape_of kinds.Relation) field (one, tt) (two, (three, (eight, (nine, (ten, tt))))) e

pub numbers-seen : (kind : ObjectKind) → IsSeenAs number_lists (number_step (shape_of kind)) (list_step (shape_of kind))
numbers-seen kind numbers field =
    held-seen (shape_of kind) field.number field.body_at field.content numbers (read_is_listed kind field.number)

-- ---- the same, where the numbers aren't kept

check-seen : (shape : Shape) (field at : ℕ) (content : Content) (numbers : List (ℕ × ℕ)) → spelled (with_held shape field at content numbers) ≡ check_held shape field at content
check-seen shape field at (Varint n) numbers =
    elim (cases_Bool (is_field_among field shape.singles || is_field_among field shape.lists)) [ inl e ↦ rw e refl | inr e ↦ rw e refl ]
check-seen shape field at (Fixed64 n) numbers = refl
check-seen shape field at (Bytes bytes) numbers =
    let list = packed_of at bytes in
    elim (cases_Bool (is_field_among field shape.lists)) [
      | inl e ↦ rw e (ap spelled (walk_numbers field numbers list) ∙ with_end-seen (λ _. tt) list.fault (numbers ++ of_field field list.items))
      | inr e ↦ rw e refl
    ]
check-seen shape field at (Fixed32 n) numbers = refl

pub numbers-checked : (shape : Shape) → IsSeenAs (λ _. tt) (number_step shape) (check_step shape)
numbers-checked shape numbers field = check-seen shape field.number field.body_at field.content numbers

-- ---- how the loops over the fields of an object begin

pub numbers-begun : (kind : ObjectKind) (at : ℕ) (bytes : List ℕ) → Going (listed_numbers (numbers_in (shape_of kind) at bytes)) (left_of (list_step (shape_of kind)) (number_lists []) (begun at bytes)) (begun at bytes)
unfolding numbers_in
numbers-begun kind at bytes = record {
  unbroken = refl;
  same = walk-seen number_lists (number_step (shape_of kind)) (list_step (shape_of kind)) (numbers-seen kind) [] (message_of at bytes);
}

pub checked-begun : (shape : Shape) (at : ℕ) (bytes : List ℕ) → Going (spelled (numbers_in shape at bytes)) (left_of (check_step shape) tt (begun at bytes)) (begun at bytes)
unfolding numbers_in
checked-begun shape at bytes = record {
  unbroken = refl;
  same = walk-seen (λ _. tt) (number_step shape) (check_step shape) (numbers-checked shape) [] (message_of at bytes);
}
