-- What a reader takes of a message's fields is what the grammar says of them.
use Rattle.std.proofs.Common.{◌≡◌, ◌⊎◌, ◌↔◌, inl, inr, ℕ, ◌≤◌, eqb, cond, ◌&&◌, ◌||◌, Bool, true, false, List, [], ◌∷◌, ◌++◌, Option, Some, None, refl, sym, ap, ◌∙◌, subst, arith}
use Rattle.std.specs.Prelude.{nat_le, codes}
use Rattle.std.specs.List.{AllByRecursion, filter_map, cons_option, last_or, find}
use Rattle.std.specs.Str.{bytes_eq}
use Rattle.std.proofs.lemmas.Bool.{eqb-true}
use Rattle.std.proofs.lemmas.Bool.Decides.{nat_tests}
use Rattle.std.proofs.lemmas.List.Elements.{filter_map-append}
use Rattle.wire_read.specs.Fields.{Content, Varint, Fixed64, Bytes, Fixed32, WireField}
use Rattle.pbf_blobs.specs.Messages.{held_bytes, held_varint, field_bytes, field_varint, bytes_in, varints_in, last_of, first_between}
use Rattle.pbf_blobs.specs.Triple.{HoldsBytes, HoldsVarint, NoneHolds, IsLastHeld, IsBetween, NoneBetween, IsFirstBetween, IsKnownType, is_known}

some_one : {A : Type 0} (x y : A) → ◌≡◌ {A = Option A} (Some x) (Some y) → x ≡ y
some_one x y e = cc

none_some : {A : Type 0} (x : A) → ◌≡◌ {A = Option A} None (Some x) → ⊥
none_some x e = cc

same_test : (n : ℕ) → eqb n n ≡ true
same_test n = grind (arith, nat_tests)

-- ---- the last value

module _ {A : Type 0} (test : WireField → Option A) (Holds : WireField → A → Type 0) (says : (field : WireField) (value : A) → (test field ≡ Some value) ↔ Holds field value) where
  not_held : (field : WireField) → test field ≡ None → (value : A) → Holds field value → ⊥
  not_held field e value holds = none_some value (sym e ∙ (says field value).1 holds)

  record Or (o : Option A) (fields : List WireField) (value : A) : Type 0 where
    which : (NoneHolds Holds fields × (o ≡ Some value)) ⊎ IsLastHeld Holds fields value

  last_some : (o : Option A) (fields : List WireField) (value : A) → last_or o (filter_map test fields) ≡ Some value → (NoneHolds Holds fields × (o ≡ Some value)) ⊎ IsLastHeld Holds fields value
  last_some o [] value e = inl (tt, e)
  last_some o (field ∷ fields) value e = by (test field) refl (λ p. last_some p fields value) e
    where
      before_it : IsLastHeld Holds fields value → IsLastHeld Holds (field ∷ fields) value
      before_it is = record { before = field ∷ is.before; field = is.field; after = is.after; parts = ap (λ l. field ∷ l) is.parts; holds = is.holds; last = is.last }

      by : (t : Option A) → test field ≡ t → ((p : Option A) → last_or p (filter_map test fields) ≡ Some value → (NoneHolds Holds fields × (p ≡ Some value)) ⊎ IsLastHeld Holds fields value)
          → last_or o (cons_option t (filter_map test fields)) ≡ Some value → (NoneHolds Holds (field ∷ fields) × (o ≡ Some value)) ⊎ IsLastHeld Holds (field ∷ fields) value
      by None h rest e = elim (rest o e) [
        | inl none ↦ inl ((not_held field h, none.0), none.1)
        | inr is ↦ inr (before_it is)
      ]
      by (Some w) h rest e = elim (rest (Some w) e) [
        | inl none ↦ inr (record { before = []; field = field; after = fields; parts = refl; holds = (says field value).0 (h ∙ none.1); last = none.0 })
        | inr is ↦ inr (before_it is)
      ]

  none_held : (fields : List WireField) → NoneHolds Holds fields → filter_map test fields ≡ []
  none_held [] none = refl
  none_held (field ∷ fields) none = by (test field) refl (none_held fields none.1)
    where
      by : (t : Option A) → test field ≡ t → filter_map test fields ≡ [] → cons_option t (filter_map test fields) ≡ []
      by None h rest = rest
      by (Some w) h rest = absurd (none.0 w ((says field w).0 h))

  pub none_holds : (fields : List WireField) → (filter_map test fields ≡ []) ↔ NoneHolds Holds fields
  none_holds fields = (lacks fields, none_held fields)
    where
      lacks : (fields : List WireField) → filter_map test fields ≡ [] → NoneHolds Holds fields
      lacks [] e = tt
      lacks (field ∷ fields) e = by (test field) refl (lacks fields) e
        where
          by : (t : Option A) → test field ≡ t → (filter_map test fields ≡ [] → NoneHolds Holds fields) → cons_option t (filter_map test fields) ≡ [] → NoneHolds Holds (field ∷ fields)
          by None h rest e = (not_held field h, rest e)
          by (Some w) h rest e = absurd cc

  last_front : (o : Option A) (front : List A) (value : A) → last_or o (front ++ value ∷ []) ≡ Some value
  last_front o [] value = refl
  last_front o (x ∷ front) value = last_front (Some x) front value

  pub last_held : (fields : List WireField) (value : A) → (last_of (filter_map test fields) ≡ Some value) ↔ IsLastHeld Holds fields value
  last_held fields value = (
    λ e. elim (last_some None fields value e) [
      | inl none ↦ absurd (none_some value none.1)
      | inr is ↦ is
    ],
    λ is.
        ap (λ l. last_of (filter_map test l)) is.parts
        ∙ ap last_of (filter_map-append test is.before (is.field ∷ is.after))
        ∙ ap (λ t. last_of (filter_map test is.before ++ cons_option t (filter_map test is.after))) ((says is.field value).1 is.holds)
        ∙ ap (λ l. last_of (filter_map test is.before ++ value ∷ l)) (none_held is.after is.last)
        ∙ last_front None (filter_map test is.before) value,
  )

-- ---- bytes and varints

bytes_say : (number : ℕ) (field : WireField) (value : ℕ × List ℕ) → (field_bytes number field ≡ Some value) ↔ HoldsBytes number field value
bytes_say number field (place, bytes) = (by (eqb field.number number) refl, back)
  where
    held : (content : Content) → held_bytes field.body_at content ≡ Some (place, bytes) → (field.body_at ≡ place) × (content ≡ Bytes bytes)
    held (Varint n) e = absurd cc
    held (Fixed64 n) e = absurd cc
    held (Bytes these) e = let p = some_one {A = ℕ × List ℕ} (field.body_at, these) (place, bytes) e in (ap (λ (q : ℕ × List ℕ). q.0) p, ap (λ (q : ℕ × List ℕ). Bytes q.1) p)
    held (Fixed32 n) e = absurd cc

    by : (b : Bool) → eqb field.number number ≡ b → cond b (held_bytes field.body_at field.content) None ≡ Some (place, bytes) → HoldsBytes number field (place, bytes)
    by true h e = let p = held field.content e in (eqb-true field.number number h, p.0, p.1)
    by false h e = absurd cc

    back : HoldsBytes number field (place, bytes) → field_bytes number field ≡ Some (place, bytes)
    back (number_is, place_is, content_is) =
        ap (λ b. cond b (held_bytes field.body_at field.content) None) (ap (λ n. eqb n number) number_is ∙ same_test number)
        ∙ ap (λ c. held_bytes field.body_at c) content_is
        ∙ ap (λ p. Some (p, bytes)) place_is

varints_say : (number : ℕ) (field : WireField) (value : ℕ) → (field_varint number field ≡ Some value) ↔ HoldsVarint number field value
varints_say number field value = (by (eqb field.number number) refl, back)
  where
    held : (content : Content) → held_varint content ≡ Some value → content ≡ Varint value
    held (Varint n) e = ap (λ m. Varint m) (some_one n value e)
    held (Fixed64 n) e = absurd cc
    held (Bytes these) e = absurd cc
    held (Fixed32 n) e = absurd cc

    by : (b : Bool) → eqb field.number number ≡ b → cond b (held_varint field.content) None ≡ Some value → HoldsVarint number field value
    by true h e = (eqb-true field.number number h, held field.content e)
    by false h e = absurd cc

    back : HoldsVarint number field value → field_varint number field ≡ Some value
    back (number_is, content_is) =
        ap (λ b. cond b (held_varint field.content) None) (ap (λ n. eqb n number) number_is ∙ same_test number)
        ∙ ap (λ c. held_varint c) content_is

pub last_bytes : (number : ℕ) (fields : List WireField) (value : ℕ × List ℕ) → (last_of (bytes_in number fields) ≡ Some value) ↔ IsLastHeld (HoldsBytes number) fields value
last_bytes number fields value = last_held (field_bytes number) (HoldsBytes number) (bytes_say number) fields value

pub last_varint : (number : ℕ) (fields : List WireField) (value : ℕ) → (last_of (varints_in number fields) ≡ Some value) ↔ IsLastHeld (HoldsVarint number) fields value
last_varint number fields value = last_held (field_varint number) (HoldsVarint number) (varints_say number) fields value

pub no_bytes : (number : ℕ) (fields : List WireField) → (bytes_in number fields ≡ []) ↔ NoneHolds (HoldsBytes number) fields
no_bytes number fields = none_holds (field_bytes number) (HoldsBytes number) (bytes_say number) fields

pub no_varint : (number : ℕ) (fields : List WireField) → (varints_in number fields ≡ []) ↔ NoneHolds (HoldsVarint number) fields
no_varint number fields = none_holds (field_varint number) (HoldsVarint number) (varints_say number) fields

-- ---- a range of numbers

between_is : (least most : ℕ) (field : WireField) → (nat_le least field.number && nat_le field.number most) ≡ true → IsBetween least most field
between_is least most field e = (grind (arith, nat_tests), grind (arith, nat_tests))

is_between : (least most : ℕ) (field : WireField) → IsBetween least most field → (nat_le least field.number && nat_le field.number most) ≡ true
is_between least most field (low, high) = grind (arith, nat_tests)

not_between : (least most : ℕ) (field : WireField) → (nat_le least field.number && nat_le field.number most) ≡ false → IsBetween least most field → ⊥
not_between least most field e is = true_false (sym (is_between least most field is) ∙ e)
  where
    true_false : true ≡ false → ⊥
    true_false h = cc

no_between : (least most : ℕ) (field : WireField) → (IsBetween least most field → ⊥) → (nat_le least field.number && nat_le field.number most) ≡ false
no_between least most field never = by (nat_le least field.number && nat_le field.number most) refl
  where
    by : (b : Bool) → (nat_le least field.number && nat_le field.number most) ≡ b → (nat_le least field.number && nat_le field.number most) ≡ false
    by true h = absurd (never (between_is least most field h))
    by false h = h

pub none_between : (least most : ℕ) (fields : List WireField) → (first_between least most fields ≡ None) ↔ NoneBetween least most fields
none_between least most fields = (none fields, back fields)
  where
    none : (fields : List WireField) → first_between least most fields ≡ None → NoneBetween least most fields
    none [] e = tt
    none (field ∷ fields) e = by (nat_le least field.number && nat_le field.number most) refl (none fields) e
      where
        by : (b : Bool) → (nat_le least field.number && nat_le field.number most) ≡ b → (first_between least most fields ≡ None → NoneBetween least most fields) → cond b (Some field) (first_between least most fields) ≡ None → NoneBetween least most (field ∷ fields)
        by true h rest e = absurd cc
        by false h rest e = (not_between least most field h, rest e)

    back : (fields : List WireField) → NoneBetween least most fields → first_between least most fields ≡ None
    back [] all = refl
    back (field ∷ fields) all = ap (λ b. cond b (Some field) (first_between least most fields)) (no_between least most field all.0) ∙ back fields all.1

pub first_is : (least most : ℕ) (fields : List WireField) (field : WireField) → (first_between least most fields ≡ Some field) ↔ IsFirstBetween least most fields field
first_is least most fields field = (first fields, λ is. ap (first_between least most) is.parts ∙ back is.before is.after is.first is.between)
  where
    first : (fields : List WireField) → first_between least most fields ≡ Some field → IsFirstBetween least most fields field
    first [] e = absurd cc
    first (x ∷ fields) e = by (nat_le least x.number && nat_le x.number most) refl (first fields) e
      where
        by : (b : Bool) → (nat_le least x.number && nat_le x.number most) ≡ b → (first_between least most fields ≡ Some field → IsFirstBetween least most fields field) → cond b (Some x) (first_between least most fields) ≡ Some field → IsFirstBetween least most (x ∷ fields) field
        by true h rest e =
            let same = some_one x field e in
            record { before = []; after = fields; parts = ap (λ y. y ∷ fields) same; between = subst (IsBetween least most) same (between_is least most x h); first = tt }
        by false h rest e =
            let is = rest e in
            record { before = x ∷ is.before; after = is.after; parts = ap (λ l. x ∷ l) is.parts; between = is.between; first = (not_between least most x h, is.first) }

    back : (before after : List WireField) → NoneBetween least most before → IsBetween least most field → first_between least most (before ++ field ∷ after) ≡ Some field
    back [] after none between = ap (λ b. cond b (Some field) (first_between least most after)) (is_between least most field between)
    back (x ∷ before) after none between = ap (λ b. cond b (Some x) (first_between least most (before ++ field ∷ after))) (no_between least most x none.0) ∙ back before after none.1 between

-- ---- types that are known

same_bytes : (xs ys : List ℕ) → bytes_eq xs ys ≡ true → xs ≡ ys
same_bytes [] [] e = refl
same_bytes [] (y ∷ ys) e = absurd cc
same_bytes (x ∷ xs) [] e = absurd cc
same_bytes (x ∷ xs) (y ∷ ys) e = by (eqb x y) refl (same_bytes xs ys) e
  where
    by : (b : Bool) → eqb x y ≡ b → (bytes_eq xs ys ≡ true → xs ≡ ys) → (b && bytes_eq xs ys) ≡ true → x ∷ xs ≡ y ∷ ys
    by true h rest e = ap (λ a. a ∷ xs) (eqb-true x y h) ∙ ap (λ l. y ∷ l) (rest e)
    by false h rest e = absurd cc

bytes_same : (xs : List ℕ) → bytes_eq xs xs ≡ true
bytes_same [] = refl
bytes_same (x ∷ xs) = ap (λ b. b && bytes_eq xs xs) (same_test x) ∙ bytes_same xs

one_of_two : (kind one other : List ℕ) → ((bytes_eq kind one || bytes_eq kind other) ≡ true) ↔ ((kind ≡ one) ⊎ (kind ≡ other))
one_of_two kind one other = (by (bytes_eq kind one) refl, back)
  where
    by : (b : Bool) → bytes_eq kind one ≡ b → (b || bytes_eq kind other) ≡ true → (kind ≡ one) ⊎ (kind ≡ other)
    by true h e = inl (same_bytes kind one h)
    by false h e = inr (same_bytes kind other e)

    either : (b : Bool) → (b || true) ≡ true
    either true = refl
    either false = refl

    back : (kind ≡ one) ⊎ (kind ≡ other) → (bytes_eq kind one || bytes_eq kind other) ≡ true
    back (inl e) = ap (λ b. b || bytes_eq kind other) (ap (λ k. bytes_eq k one) e ∙ bytes_same one)
    back (inr e) = ap (λ b. bytes_eq kind one || b) (ap (λ k. bytes_eq k other) e ∙ bytes_same other) ∙ either (bytes_eq kind one)

pub known_type : (kind : List ℕ) → (is_known kind ≡ true) ↔ IsKnownType kind
known_type kind = one_of_two kind (codes "OSMHeader") (codes "OSMData")

pub known_same : (kind : List ℕ) (known : Bool) → (known ≡ true) ↔ IsKnownType kind → is_known kind ≡ known
known_same kind true so = (known_type kind).1 (so.0 refl)
known_same kind false so = by (is_known kind) refl
  where
    by : (b : Bool) → is_known kind ≡ b → is_known kind ≡ false
    by true h = absurd (false_true (so.1 ((known_type kind).0 h)))
      where
        false_true : false ≡ true → ⊥
        false_true e = cc
    by false h = h

pub known_so : (kind : List ℕ) (known : Bool) → is_known kind ≡ known → (known ≡ true) ↔ IsKnownType kind
known_so kind known e = (λ is. (known_type kind).0 (e ∙ is), λ so. sym e ∙ (known_type kind).1 so)
