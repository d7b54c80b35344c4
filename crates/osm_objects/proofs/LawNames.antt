-- What the texts that an object names give, and which of them is the first bad one.
use Rattle.std.proofs.Common.{◌≡◌, ◌⊎◌, inl, inr, ℕ, ◌+◌, ◌||◌, ◌&&◌, eqb, cond, Bool, true, false, List, [], ◌∷◌, ◌++◌, Option, Some, None, Result, Ok, Err, refl, sym, ap, ◌∙◌, subst, arith, append_assoc}
use Rattle.std.specs.Prelude.{slice_get, codes, nat_eq}
use Rattle.std.specs.List.{starts_with, AllByRecursion}
use Rattle.std.specs.Str.{IsUtf8, is_utf8, bytes_eq}
use Rattle.std.proofs.lemmas.Bool.{eqb-true}
use Rattle.std.proofs.lemmas.Bool.Decides.{nat_tests}
use Rattle.std.proofs.lemmas.Str.{IsUtf8-from_is_utf8, is_utf8-from_IsUtf8}
use Rattle.osm_model.specs.declared.tags.Tag.{Tag}
use Rattle.osm_objects.specs.declared.fault.ObjectFault.{ObjectFault}
use Rattle.osm_objects.specs.declared.fault.ObjectFault.TheVariants as faults
use Rattle.osm_objects.specs.Steps.{◌>>=◌, each}
use Rattle.osm_objects.specs.KeptKeys.{road_keys, access_keys, relation_keys, is_key_among, is_kept}
use Rattle.osm_objects.specs.Tags.{found, bytes_at, as_text, text_at, kept_tag, dropped_tag, keeps, tag_of, tags_of}
use Rattle.osm_objects.specs.Means.{HoldsOfOne, HasTextAt, IsUtf8Text, kept_keys, IsKept, GivesTag, AreKeptTags}
use Rattle.osm_objects.specs.Causes.{NamedText, KeyText, ValueText, RoleText, index_of, IsBadText, IsBadName, tag_names, pairs_in}
use Rattle.osm_objects.proofs.LawParts.{ok_one, err_one, ok_not_err, both_parts, which_part, then_is, Groups}

true_false : {b : Bool} → b ≡ true → b ≡ false → ⊥
true_false {b} e f = impossible (sym e ∙ f)
  where
    impossible : true ≡ false → ⊥
    impossible h = cc

-- ---- kept keys

same_bytes : (xs ys : List ℕ) → bytes_eq xs ys ≡ true → xs ≡ ys
same_bytes [] [] e = refl
same_bytes [] (y ∷ ys) e = absurd cc
same_bytes (x ∷ xs) [] e = absurd cc
same_bytes (x ∷ xs) (y ∷ ys) e = by (eqb x y) refl (same_bytes xs ys) e
  where
    by : (b : Bool) → eqb x y ≡ b → (bytes_eq xs ys ≡ true → xs ≡ ys) → (b && bytes_eq xs ys) ≡ true → x ∷ xs ≡ y ∷ ys
    by true h rest e = ap (λ a. a ∷ xs) (eqb-true x y h) ∙ ap (λ l. y ∷ l) (rest e)
    by false h rest e = absurd cc

same_test : (n : ℕ) → eqb n n ≡ true
same_test n = grind (arith, nat_tests)

bytes_same : (xs : List ℕ) → bytes_eq xs xs ≡ true
bytes_same [] = refl
bytes_same (x ∷ xs) = ap (λ b. b && bytes_eq xs xs) (same_test x) ∙ bytes_same xs

among_some : (key : List ℕ) (keys : List (List ℕ)) → is_key_among key keys ≡ true → HoldsOfOne (λ (kept : List ℕ). key ≡ kept) keys
among_some key [] e = absurd cc
among_some key (k ∷ ks) e = by (bytes_eq key k) refl (among_some key ks) e
  where
    by : (b : Bool) → bytes_eq key k ≡ b → (is_key_among key ks ≡ true → HoldsOfOne (λ (kept : List ℕ). key ≡ kept) ks) → (b || is_key_among key ks) ≡ true → (key ≡ k) ⊎ HoldsOfOne (λ (kept : List ℕ). key ≡ kept) ks
    by true h rest e = inl (same_bytes key k h)
    by false h rest e = inr (rest e)

some_among : (key : List ℕ) (keys : List (List ℕ)) → HoldsOfOne (λ (kept : List ℕ). key ≡ kept) keys → is_key_among key keys ≡ true
some_among key [] some = absurd some
some_among key (k ∷ ks) (inl e) = ap (λ b. b || is_key_among key ks) (ap (bytes_eq key) (sym e) ∙ bytes_same key)
some_among key (k ∷ ks) (inr some) = by (bytes_eq key k) (some_among key ks some)
  where
    by : (b : Bool) → is_key_among key ks ≡ true → (b || is_key_among key ks) ≡ true
    by true e = refl
    by false e = e

some_left : {A : Type 0} (P : A → Type 0) (xs ys : List A) → HoldsOfOne P xs → HoldsOfOne P (xs ++ ys)
some_left P [] ys some = absurd some
some_left P (x ∷ xs) ys (inl p) = inl p
some_left P (x ∷ xs) ys (inr p) = inr (some_left P xs ys p)

some_right : {A : Type 0} (P : A → Type 0) (xs ys : List A) → HoldsOfOne P ys → HoldsOfOne P (xs ++ ys)
some_right P [] ys some = some
some_right P (x ∷ xs) ys some = inr (some_right P xs ys some)

some_which : {A : Type 0} (P : A → Type 0) (xs ys : List A) → HoldsOfOne P (xs ++ ys) → HoldsOfOne P xs ⊎ HoldsOfOne P ys
some_which P [] ys some = inr some
some_which P (x ∷ xs) ys (inl p) = inl (inl p)
some_which P (x ∷ xs) ys (inr p) = elim (some_which P xs ys p) [ inl h ↦ inl (inr h) | inr h ↦ inr h ]

-- the table of kept keys is the three lists, one behind the other
keys_are : kept_keys ≡ road_keys ++ (access_keys ++ relation_keys)
keys_are = refl

begins : (needle key : List ℕ) → starts_with nat_eq key needle ≡ true → (rest : List ℕ) × (key ≡ needle ++ rest)
begins [] key e = (key, refl)
begins (x ∷ xs) [] e = absurd cc
begins (x ∷ xs) (k ∷ ks) e = by (eqb x k) refl (begins xs ks) e
  where
    by : (b : Bool) → eqb x k ≡ b → (starts_with nat_eq ks xs ≡ true → (rest : List ℕ) × (ks ≡ xs ++ rest)) → (b && starts_with nat_eq ks xs) ≡ true → (rest : List ℕ) × (k ∷ ks ≡ (x ∷ xs) ++ rest)
    by true h more e = let m = more e in (m.0, ap (λ a. a ∷ ks) (sym (eqb-true x k h)) ∙ ap (λ l. x ∷ l) m.1)
    by false h more e = absurd cc

begun : (needle rest : List ℕ) → starts_with nat_eq (needle ++ rest) needle ≡ true
begun [] rest = refl
begun (x ∷ xs) rest = ap (λ b. b && starts_with nat_eq (xs ++ rest) xs) (same_test x) ∙ begun xs rest

one_or : (a b c d : Bool) → (a || b || c || d) ≡ true → (a ≡ true) ⊎ ((b ≡ true) ⊎ ((c ≡ true) ⊎ (d ≡ true)))
one_or true b c d e = inl refl
one_or false true c d e = inr (inl refl)
one_or false false true d e = inr (inr (inl refl))
one_or false false false true e = inr (inr (inr refl))
one_or false false false false e = absurd cc

or_one : (a b c d : Bool) → (a ≡ true) ⊎ ((b ≡ true) ⊎ ((c ≡ true) ⊎ (d ≡ true))) → (a || b || c || d) ≡ true
or_one true b c d some = refl
or_one false true c d some = refl
or_one false false true d some = refl
or_one false false false true some = refl
or_one false false false false (inl e) = absurd cc
or_one false false false false (inr (inl e)) = absurd cc
or_one false false false false (inr (inr (inl e))) = absurd cc
or_one false false false false (inr (inr (inr e))) = absurd cc

abbrev IsThis : List ℕ → List ℕ → Type 0
IsThis key kept = key ≡ kept

kept_is : (key : List ℕ) → is_kept key ≡ true → IsKept key
unfolding is_kept
kept_is key e =
    elim (one_or (is_key_among key road_keys) (is_key_among key access_keys) (is_key_among key relation_keys) (starts_with nat_eq key (codes "restriction:")) e) [
      | inl a ↦ inl (subst (HoldsOfOne (IsThis key)) (sym keys_are) (some_left (IsThis key) road_keys (access_keys ++ relation_keys) (among_some key road_keys a)))
      | inr h ↦ elim h [
        | inl b ↦ inl (subst (HoldsOfOne (IsThis key)) (sym keys_are) (some_right (IsThis key) road_keys (access_keys ++ relation_keys) (some_left (IsThis key) access_keys relation_keys (among_some key access_keys b))))
        | inr k ↦ elim k [
          | inl c ↦ inl (subst (HoldsOfOne (IsThis key)) (sym keys_are) (some_right (IsThis key) road_keys (access_keys ++ relation_keys) (some_right (IsThis key) access_keys relation_keys (among_some key relation_keys c))))
          | inr d ↦ inr (begins (codes "restriction:") key d)
        ]
      ]
    ]

is_kept_so : (key : List ℕ) → IsKept key → is_kept key ≡ true
unfolding is_kept
is_kept_so key kept =
    or_one (is_key_among key road_keys) (is_key_among key access_keys) (is_key_among key relation_keys) (starts_with nat_eq key (codes "restriction:"))
    (elim kept [
      | inl some ↦ elim (some_which (IsThis key) road_keys (access_keys ++ relation_keys) (subst (HoldsOfOne (IsThis key)) keys_are some)) [
        | inl a ↦ inl (some_among key road_keys a)
        | inr more ↦ elim (some_which (IsThis key) access_keys relation_keys more) [
          | inl b ↦ inr (inl (some_among key access_keys b))
          | inr c ↦ inr (inr (inl (some_among key relation_keys c)))
        ]
      ]
      | inr p ↦ inr (inr (inr (ap (λ l. starts_with nat_eq l (codes "restriction:")) p.1 ∙ begun (codes "restriction:") p.0)))
    ])

not_kept : (key : List ℕ) → is_kept key ≡ false → IsKept key → ⊥
not_kept key e kept = true_false (is_kept_so key kept) e

-- ---- texts

found_ok : (table : List (List ℕ)) (at index : ℕ) (text : List ℕ) → bytes_at table at index ≡ Ok text → HasTextAt table index text
found_ok table at index text e = by (slice_get table index) refl e
  where
    by : (o : Option (List ℕ)) → slice_get table index ≡ o → found at index o ≡ Ok text → slice_get table index ≡ Some text
    by None h e = absurd (ok_not_err text (faults.BadString at index) (sym e))
    by (Some bytes) h e = h ∙ ap (λ l. Some l) (ok_one bytes text e)

found_is : (table : List (List ℕ)) (at index : ℕ) (text : List ℕ) → HasTextAt table index text → bytes_at table at index ≡ Ok text
found_is table at index text e = ap (found at index) e

found_bad : (table : List (List ℕ)) (at index : ℕ) (f : ObjectFault) → bytes_at table at index ≡ Err f → (f ≡ faults.BadString at index) × (slice_get table index ≡ None)
found_bad table at index f e = by (slice_get table index) refl e
  where
    by : (o : Option (List ℕ)) → slice_get table index ≡ o → found at index o ≡ Err f → (f ≡ faults.BadString at index) × (slice_get table index ≡ None)
    by None h e = (err_one {A = List ℕ} f (faults.BadString at index) (sym e), h)
    by (Some bytes) h e = absurd (ok_not_err bytes f e)

not_utf8 : (bytes : List ℕ) → is_utf8 bytes ≡ false → IsUtf8 bytes → ⊥
not_utf8 bytes e utf8 = true_false (is_utf8-from_IsUtf8 bytes utf8) e

as_text_ok : (at index : ℕ) (bytes text : List ℕ) → as_text at index bytes ≡ Ok text → (bytes ≡ text) × IsUtf8 bytes
as_text_ok at index bytes text e = by (is_utf8 bytes) refl e
  where
    by : (b : Bool) → is_utf8 bytes ≡ b → cond b (Ok bytes) (Err (faults.BadString at index)) ≡ Ok text → (bytes ≡ text) × IsUtf8 bytes
    by true h e = (ok_one bytes text e, IsUtf8-from_is_utf8 bytes h)
    by false h e = absurd (ok_not_err text (faults.BadString at index) (sym e))

as_text_bad : (at index : ℕ) (bytes : List ℕ) (f : ObjectFault) → as_text at index bytes ≡ Err f → (f ≡ faults.BadString at index) × (IsUtf8 bytes → ⊥)
as_text_bad at index bytes f e = by (is_utf8 bytes) refl e
  where
    by : (b : Bool) → is_utf8 bytes ≡ b → cond b (Ok bytes) (Err (faults.BadString at index)) ≡ Err f → (f ≡ faults.BadString at index) × (IsUtf8 bytes → ⊥)
    by true h e = absurd (ok_not_err bytes f e)
    by false h e = (err_one {A = List ℕ} f (faults.BadString at index) (sym e), not_utf8 bytes h)

as_text_is : (at index : ℕ) (bytes : List ℕ) → IsUtf8 bytes → as_text at index bytes ≡ Ok bytes
as_text_is at index bytes utf8 = ap (λ b. cond b (Ok bytes) (Err (faults.BadString at index))) (is_utf8-from_IsUtf8 bytes utf8)

pub text_ok : (table : List (List ℕ)) (at index : ℕ) (text : List ℕ) → text_at table at index ≡ Ok text → IsUtf8Text table index text
text_ok table at index text e =
    let p = both_parts (bytes_at table at index) (as_text at index) text e in
    let t = as_text_ok at index p.0 text p.2 in
    record { found = found_ok table at index p.0 p.1 ∙ ap (λ l. Some l) t.0; utf8 = subst IsUtf8 t.0 t.1 }

pub text_is : (table : List (List ℕ)) (at index : ℕ) (text : List ℕ) → IsUtf8Text table index text → text_at table at index ≡ Ok text
text_is table at index text is = then_is (bytes_at table at index) text (as_text at index) text (found_is table at index text is.found) (as_text_is at index text is.utf8)

-- a text that has to be UTF-8 for a reason
text_bad : (Needed : List ℕ → Type 0) (table : List (List ℕ)) (at index : ℕ) (f : ObjectFault) → ((text : List ℕ) → HasTextAt table index text → Needed text) → text_at table at index ≡ Err f
    → (f ≡ faults.BadString at index) × IsBadText Needed table index
text_bad Needed table at index f needed e =
    elim (which_part (bytes_at table at index) (as_text at index) f e) [
      | inl h ↦ (let b = found_bad table at index f h in (b.0, inl b.1))
      | inr h ↦
          (let b = as_text_bad at index h.0 f h.2 in
          let there = found_ok table at index h.0 h.1 in
          (b.0, inr (h.0, there, needed h.0 there, b.1)))
    ]

some_one : {A : Type 0} (x y : A) → ◌≡◌ {A = Option A} (Some x) (Some y) → x ≡ y
some_one x y e = cc

none_some : {A : Type 0} (o : Option A) (x : A) → o ≡ None → o ≡ Some x → ⊥
none_some o x e f = impossible (sym e ∙ f)
  where
    impossible : ◌≡◌ {A = Option _} None (Some x) → ⊥
    impossible h = cc

-- a text that is there and is UTF-8 where it has to be isn't a bad one
not_bad : (Needed : List ℕ → Type 0) (table : List (List ℕ)) (index : ℕ) (text : List ℕ) → HasTextAt table index text → (Needed text → IsUtf8 text) → IsBadText Needed table index → ⊥
not_bad Needed table index text there utf8 (inl none) = none_some (slice_get table index) text none there
not_bad Needed table index text there utf8 (inr (other, is, needed, never)) =
    let same = some_one other text (sym is ∙ there) in
    never (subst IsUtf8 (sym same) (utf8 (subst Needed same needed)))

-- ---- names, one after the other

abbrev pub NoneBad : List (List ℕ) → List NamedText → Type 0
NoneBad table names = AllByRecursion (λ (name : NamedText). IsBadName table name → ⊥) names

-- the first bad name, and the fault that is its
pub record FirstBad (table : List (List ℕ)) (at : ℕ) (names : List NamedText) (f : ObjectFault) : Type 0 where
  pub before : List NamedText
  pub name : NamedText
  pub after : List NamedText
  pub parts : names ≡ before ++ name ∷ after
  pub good : NoneBad table before
  pub bad : IsBadName table name
  pub fault_is : f ≡ faults.BadString at (index_of name)

-- what reads these names, and gives a value or the fault of the first bad one
pub record ReadsNames {A : Type 0} (table : List (List ℕ)) (at : ℕ) (names : List NamedText) (r : Result A ObjectFault) : Type 0 where
  pub good : (x : A) → r ≡ Ok x → NoneBad table names
  pub bad : (f : ObjectFault) → r ≡ Err f → FirstBad table at names f

all_append : {A : Type 0} (P : A → Type 0) (xs ys : List A) → AllByRecursion P xs → AllByRecursion P ys → AllByRecursion P (xs ++ ys)
all_append P [] ys a b = b
all_append P (x ∷ xs) ys a b = (a.0, all_append P xs ys a.1 b)

pub reads_then : {A B : Type 0} (table : List (List ℕ)) (at : ℕ) (names others : List NamedText) (r : Result A ObjectFault) (f : A → Result B ObjectFault)
    → ReadsNames table at names r → ((x : A) → r ≡ Ok x → ReadsNames table at others (f x)) → ReadsNames table at (names ++ others) (r >>= f)
reads_then table at names others r f one rest = record {
  good = λ y e.
      let p = both_parts r f y e in
      all_append (λ (name : NamedText). IsBadName table name → ⊥) names others (one.good p.0 p.1) ((rest p.0 p.1).good y p.2);
  bad = λ d e. elim (which_part r f d e) [
    | inl h ↦
        (let b = one.bad d h in
        record {
          before = b.before;
          name = b.name;
          after = b.after ++ others;
          parts = ap (λ l. l ++ others) b.parts ∙ append_assoc b.before (b.name ∷ b.after) others;
          good = b.good;
          bad = b.bad;
          fault_is = b.fault_is;
        })
    | inr h ↦
        (let b = (rest h.0 h.1).bad d h.2 in
        record {
          before = names ++ b.before;
          name = b.name;
          after = b.after;
          parts = ap (λ l. names ++ l) b.parts ∙ sym (append_assoc names b.before (b.name ∷ b.after));
          good = all_append (λ (name : NamedText). IsBadName table name → ⊥) names b.before (one.good h.0 h.1) b.good;
          bad = b.bad;
          fault_is = b.fault_is;
        })
  ];
}

pub reads_none : {A : Type 0} (table : List (List ℕ)) (at : ℕ) (x : A) → ReadsNames table at [] (Ok x)
reads_none table at x = record { good = λ y e. tt; bad = λ f e. absurd (ok_not_err x f e) }

-- no names more behind these
pub reads_end : {A B : Type 0} (table : List (List ℕ)) (at : ℕ) (names : List NamedText) (r : Result A ObjectFault) (g : A → B) → ReadsNames table at names r → ReadsNames table at names (r >>= λ x. Ok (g x))
reads_end table at names r g one = record {
  good = λ y e. let p = both_parts r (λ x. Ok (g x)) y e in one.good p.0 p.1;
  bad = λ d e. elim (which_part r (λ x. Ok (g x)) d e) [
    | inl h ↦ one.bad d h
    | inr h ↦ absurd (ok_not_err (g h.0) d h.2)
  ];
}

-- one name
reads_one : {A : Type 0} (table : List (List ℕ)) (at : ℕ) (name : NamedText) (r : Result A ObjectFault)
    → ((x : A) → r ≡ Ok x → IsBadName table name → ⊥) → ((f : ObjectFault) → r ≡ Err f → (f ≡ faults.BadString at (index_of name)) × IsBadName table name) → ReadsNames table at (name ∷ []) r
reads_one table at name r good bad = record {
  good = λ x e. (good x e, tt);
  bad = λ f e. let b = bad f e in record { before = []; name = name; after = []; parts = refl; good = tt; bad = b.1; fault_is = b.0 };
}

-- ---- tags

tag_way : (table : List (List ℕ)) (at : ℕ) (pair : ℕ × ℕ) (ts : List Tag) → tag_of table at pair ≡ Ok ts → GivesTag table pair ts
unfolding tag_of
tag_way table at pair ts e =
    let p = both_parts (keeps table at pair.0) (λ kept. cond kept (kept_tag table at pair) (dropped_tag table at pair)) ts e in
    let k = both_parts (bytes_at table at pair.0) (λ key. Ok (is_kept key)) p.0 p.1 in
    by k.0 (found_ok table at pair.0 k.0 k.1) (is_kept k.0) refl (ap (λ b. cond b (kept_tag table at pair) (dropped_tag table at pair)) (ok_one (is_kept k.0) p.0 k.2) ∙ p.2)
  where
    by : (key : List ℕ) → HasTextAt table pair.0 key → (b : Bool) → is_kept key ≡ b → cond b (kept_tag table at pair) (dropped_tag table at pair) ≡ Ok ts → GivesTag table pair ts
    by key there true h e =
        let a = both_parts (text_at table at pair.0) (λ key. text_at table at pair.1 >>= λ value. Ok (record { key = key; value = value } ∷ [])) ts e in
        let v = both_parts (text_at table at pair.1) (λ value. Ok (record { key = a.0; value = value } ∷ [])) ts a.2 in
        let ka = text_ok table at pair.0 a.0 a.1 in
        let va = text_ok table at pair.1 v.0 v.1 in
        let same = some_one key a.0 (sym there ∙ ka.found) in
        record {
          key = a.0;
          value = v.0;
          has_key = ka.found;
          has_value = va.found;
          is = inl (subst IsKept same (kept_is key h), ka.utf8, va.utf8, sym (ok_one (record { key = a.0; value = v.0 } ∷ []) ts v.2));
        }
    by key there false h e =
        let v = both_parts (bytes_at table at pair.1) (λ value. Ok []) ts e in
        record {
          key = key;
          value = v.0;
          has_key = there;
          has_value = found_ok table at pair.1 v.0 v.1;
          is = inr (not_kept key h, sym (ok_one [] ts v.2));
        }

not_kept_false : (key : List ℕ) → (IsKept key → ⊥) → is_kept key ≡ false
not_kept_false key never = by (is_kept key) refl
  where
    by : (b : Bool) → is_kept key ≡ b → is_kept key ≡ false
    by true h = absurd (never (kept_is key h))
    by false h = h

tag_is : (table : List (List ℕ)) (at : ℕ) (pair : ℕ × ℕ) (ts : List Tag) → GivesTag table pair ts → tag_of table at pair ≡ Ok ts
unfolding tag_of
tag_is table at pair ts gives =
    elim gives.is [
      | inl kept ↦
          then_is (keeps table at pair.0) true (λ b. cond b (kept_tag table at pair) (dropped_tag table at pair)) ts
          (then_is (bytes_at table at pair.0) gives.key (λ key. Ok (is_kept key)) true (found_is table at pair.0 gives.key gives.has_key) (ap (λ b. Ok b) (is_kept_so gives.key kept.0)))
          (then_is (text_at table at pair.0) gives.key (λ key. text_at table at pair.1 >>= λ value. Ok (record { key = key; value = value } ∷ [])) ts (text_is table at pair.0 gives.key (record { found = gives.has_key; utf8 = kept.1 }))
          (then_is (text_at table at pair.1) gives.value (λ value. Ok (record { key = gives.key; value = value } ∷ [])) ts (text_is table at pair.1 gives.value (record { found = gives.has_value; utf8 = kept.2 }))
          (ap (λ l. Ok l) (sym kept.3))))
      | inr dropped ↦
          then_is (keeps table at pair.0) false (λ b. cond b (kept_tag table at pair) (dropped_tag table at pair)) ts
          (then_is (bytes_at table at pair.0) gives.key (λ key. Ok (is_kept key)) false (found_is table at pair.0 gives.key gives.has_key) (ap (λ b. Ok b) (not_kept_false gives.key dropped.0)))
          (then_is (bytes_at table at pair.1) gives.value (λ value. Ok []) ts (found_is table at pair.1 gives.value gives.has_value) (ap (λ l. Ok l) (sym dropped.1)))
    ]

-- the key, and then the value
tag_reads : (table : List (List ℕ)) (at : ℕ) (pair : ℕ × ℕ) → ReadsNames table at (KeyText pair.0 ∷ ValueText pair.0 pair.1 ∷ []) (tag_of table at pair)
unfolding tag_of
tag_reads table at pair = record { good = good_of; bad = bad_of }
  where
    good_of : (ts : List Tag) → tag_of table at pair ≡ Ok ts → NoneBad table (KeyText pair.0 ∷ ValueText pair.0 pair.1 ∷ [])
    good_of ts e =
        let g = tag_way table at pair ts e in
        elim g.is [
          | inl kept ↦
              (not_bad IsKept table pair.0 g.key g.has_key (λ so. kept.1), (not_bad (λ (text : List ℕ). (k : List ℕ) × HasTextAt table pair.0 k × IsKept k) table pair.1 g.value g.has_value (λ so. kept.2), tt))
          | inr dropped ↦ (
            not_bad IsKept table pair.0 g.key g.has_key (λ so. absurd (dropped.0 so)),
            (not_bad (λ (text : List ℕ). (k : List ℕ) × HasTextAt table pair.0 k × IsKept k) table pair.1 g.value g.has_value (λ so. absurd (dropped.0 (subst IsKept (some_one so.0 g.key (sym so.1 ∙ g.has_key)) so.2))), tt),
          )
        ]

    bad_key : (f : ObjectFault) → f ≡ faults.BadString at pair.0 → IsBadText IsKept table pair.0 → FirstBad table at (KeyText pair.0 ∷ ValueText pair.0 pair.1 ∷ []) f
    bad_key f is bad = record { before = []; name = KeyText pair.0; after = ValueText pair.0 pair.1 ∷ []; parts = refl; good = tt; bad = bad; fault_is = is }

    bad_value : (f : ObjectFault) → f ≡ faults.BadString at pair.1 → (IsBadText IsKept table pair.0 → ⊥) → IsBadName table (ValueText pair.0 pair.1) → FirstBad table at (KeyText pair.0 ∷ ValueText pair.0 pair.1 ∷ []) f
    bad_value f is good bad = record { before = KeyText pair.0 ∷ []; name = ValueText pair.0 pair.1; after = []; parts = refl; good = (good, tt); bad = bad; fault_is = is }

    by : (f : ObjectFault) (key : List ℕ) → HasTextAt table pair.0 key → (b : Bool) → is_kept key ≡ b → cond b (kept_tag table at pair) (dropped_tag table at pair) ≡ Err f → FirstBad table at (KeyText pair.0 ∷ ValueText pair.0 pair.1 ∷ []) f
    by f key there true h e =
        elim (which_part (text_at table at pair.0) (λ key. text_at table at pair.1 >>= λ value. Ok (record { key = key; value = value } ∷ [])) f e) [
          | inl bad ↦ (let b = text_bad IsKept table at pair.0 f (λ text is. subst IsKept (some_one key text (sym there ∙ is)) (kept_is key h)) bad in bad_key f b.0 b.1)
          | inr good ↦
              (let ka = text_ok table at pair.0 good.0 good.1 in
              elim (which_part (text_at table at pair.1) (λ value. Ok (record { key = good.0; value = value } ∷ [])) f good.2) [
                | inl bad ↦
                    (let b = text_bad (λ (text : List ℕ). (k : List ℕ) × HasTextAt table pair.0 k × IsKept k) table at pair.1 f (λ text is. (key, there, kept_is key h)) bad in
                    bad_value f b.0 (not_bad IsKept table pair.0 good.0 ka.found (λ so. ka.utf8)) b.1)
                | inr fine ↦ absurd (ok_not_err (record { key = good.0; value = fine.0 } ∷ []) f fine.2)
              ])
        ]
    by f key there false h e =
        elim (which_part (bytes_at table at pair.1) (λ value. Ok []) f e) [
          | inl bad ↦ (let b = found_bad table at pair.1 f bad in bad_value f b.0 (not_bad IsKept table pair.0 key there (λ so. absurd (not_kept key h so))) (inl b.1))
          | inr fine ↦ absurd (ok_not_err [] f fine.2)
        ]

    bad_of : (f : ObjectFault) → tag_of table at pair ≡ Err f → FirstBad table at (KeyText pair.0 ∷ ValueText pair.0 pair.1 ∷ []) f
    bad_of f e =
        elim (which_part (keeps table at pair.0) (λ kept. cond kept (kept_tag table at pair) (dropped_tag table at pair)) f e) [
          | inl h ↦ elim (which_part (bytes_at table at pair.0) (λ key. Ok (is_kept key)) f h) [
            | inl bad ↦ (let b = found_bad table at pair.0 f bad in bad_key f b.0 (inl b.1))
            | inr fine ↦ absurd (ok_not_err (is_kept fine.0) f fine.2)
          ]
          | inr h ↦
              (let k = both_parts (bytes_at table at pair.0) (λ key. Ok (is_kept key)) h.0 h.1 in
              by f k.0 (found_ok table at pair.0 k.0 k.1) (is_kept k.0) refl (ap (λ b. cond b (kept_tag table at pair) (dropped_tag table at pair)) (ok_one (is_kept k.0) h.0 k.2) ∙ h.2))
        ]

pub tags_ok : (table : List (List ℕ)) (at : ℕ) (pairs : List (ℕ × ℕ)) (ts : List Tag) → tags_of table at pairs ≡ Ok ts → AreKeptTags table pairs ts
tags_ok table at [] ts e = sym (ok_one [] ts e)
tags_ok table at (pair ∷ pairs) ts e =
    let a = both_parts (tag_of table at pair) (λ one. tags_of table at pairs >>= λ more. Ok (one ++ more)) ts e in
    let b = both_parts (tags_of table at pairs) (λ more. Ok (a.0 ++ more)) ts a.2 in
    (a.0, b.0, tag_way table at pair a.0 a.1, sym (ok_one (a.0 ++ b.0) ts b.2), tags_ok table at pairs b.0 b.1)

pub tags_is : (table : List (List ℕ)) (at : ℕ) (pairs : List (ℕ × ℕ)) (ts : List Tag) → AreKeptTags table pairs ts → tags_of table at pairs ≡ Ok ts
tags_is table at [] ts are = ap (λ l. Ok l) (sym are)
tags_is table at (pair ∷ pairs) ts (one, more, gives, whole, rest) =
    then_is (tag_of table at pair) one (λ one. tags_of table at pairs >>= λ more. Ok (one ++ more)) ts (tag_is table at pair one gives)
    (then_is (tags_of table at pairs) more (λ more. Ok (one ++ more)) ts (tags_is table at pairs more rest) (ap (λ l. Ok l) (sym whole)))

pub tags_read : (table : List (List ℕ)) (at : ℕ) (pairs : List (ℕ × ℕ)) → ReadsNames table at (tag_names pairs) (tags_of table at pairs)
tags_read table at [] = reads_none table at []
tags_read table at (pair ∷ pairs) =
    reads_then table at (KeyText pair.0 ∷ ValueText pair.0 pair.1 ∷ []) (tag_names pairs) (tag_of table at pair) (λ one. tags_of table at pairs >>= λ more. Ok (one ++ more)) (tag_reads table at pair)
    (λ one e. reads_end table at (tag_names pairs) (tags_of table at pairs) (λ more. one ++ more) (tags_read table at pairs))

-- ---- groups of tags

names_behind : (xs ys : List (ℕ × ℕ)) → tag_names (xs ++ ys) ≡ tag_names xs ++ tag_names ys
names_behind [] ys = refl
names_behind (pair ∷ xs) ys = ap (λ l. KeyText pair.0 ∷ ValueText pair.0 pair.1 ∷ l) (names_behind xs ys)

pub groups_read : (table : List (List ℕ)) (at : ℕ) (groups : Groups) → ReadsNames table at (tag_names (pairs_in groups)) (each (tags_of table at) groups)
groups_read table at [] = reads_none table at []
groups_read table at (group ∷ groups) =
    subst (λ names. ReadsNames table at names (each (tags_of table at) (group ∷ groups))) (sym (names_behind group (pairs_in groups)))
    (reads_then table at (tag_names group) (tag_names (pairs_in groups)) (tags_of table at group) (λ tags. each (tags_of table at) groups >>= λ more. Ok (tags ∷ more)) (tags_read table at group)
    (λ tags e. reads_end table at (tag_names (pairs_in groups)) (each (tags_of table at) groups) (λ more. tags ∷ more) (groups_read table at groups)))

-- ---- roles

pub role_read : (table : List (List ℕ)) (at index : ℕ) → ReadsNames table at (RoleText index ∷ []) (text_at table at index)
role_read table at index =
    reads_one table at (RoleText index) (text_at table at index)
    (λ text e. let is = text_ok table at index text e in not_bad (λ (text : List ℕ). Unit {0}) table index text is.found (λ so. is.utf8))
    (λ f e. text_bad (λ (text : List ℕ). Unit {0}) table at index f (λ text is. tt) e)
