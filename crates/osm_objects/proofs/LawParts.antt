-- What the parts of an object give, and what they say by the format: one number, pairs, sums and groups.
use Rattle.std.proofs.Common.{◌≡◌, ◌≢◌, ◌⊎◌, inl, inr, ℕ, zero, suc, ◌+◌, ◌<◌, ◌≤◌, ◌^◌, eqb, ltb, ℤ, pos, negsuc, ◌+ℤ◌, FitsSigned, cond, Bool, true, false, List, [], ◌∷◌, ◌++◌, map, length, take, replicate, Option, Some, None, Result, Ok, Err, refl, sym, ap, ◌∙◌, subst, arith}
use Rattle.std.specs.Prelude.{slice_get}
use Rattle.std.specs.Int.{w64}
use Rattle.std.specs.List.{last_or, zip, filter, flat_map, AllByRecursion}
use Rattle.std.specs.Option.{option_and_then}
use Rattle.std.proofs.lemmas.Bool.{cases_Bool, eqb-true, ltb-true, lt-ltb}
use Rattle.std.proofs.lemmas.Bool.Decides.{nat_tests}
use Rattle.std.proofs.lemmas.List.{length-replicate}
use Rattle.std.proofs.lemmas.Int.{ints}
use Rattle.wire_read.specs.ZigZag.{unzigzag_of}
use Rattle.osm_messages.specs.Numbers.{numbered}
use Rattle.osm_objects.specs.declared.fault.ObjectFault.{ObjectFault}
use Rattle.osm_objects.specs.declared.fault.ObjectFault.TheVariants as faults
use Rattle.osm_objects.specs.Steps.{◌>>=◌}
use Rattle.osm_objects.specs.Parts.{needed, one_number, as_many, pairs_of}
use Rattle.osm_objects.specs.Sums.{fits_i64, sums_from, sums_of}
use Rattle.osm_objects.specs.Groups.{into_first, groups_in, exactly, groups_of}
use Rattle.osm_objects.specs.Means.{held_by, IsLastOf, summed, sum_at, AreSums, ArePairs, written, HasKeys, AreWritten, AreGroups}
use Rattle.osm_objects.specs.Causes.{HasBadSum}

-- ---- results

pub ok_one : {A : Type 0} (x y : A) → ◌≡◌ {A = Result A ObjectFault} (Ok x) (Ok y) → x ≡ y
ok_one x y e = cc

pub err_one : {A : Type 0} (f g : ObjectFault) → ◌≡◌ {A = Result A ObjectFault} (Err f) (Err g) → f ≡ g
err_one f g e = cc

pub ok_not_err : {A : Type 0} (x : A) (f : ObjectFault) → ◌≡◌ {A = Result A ObjectFault} (Ok x) (Err f) → ⊥
ok_not_err x f e = cc

-- what is neither given nor refused isn't there
pub either_way : {A : Type 0} (r : Result A ObjectFault) → ((x : A) × (r ≡ Ok x)) ⊎ ((f : ObjectFault) × (r ≡ Err f))
either_way (Ok x) = inl (x, refl)
either_way (Err f) = inr (f, refl)

-- where the whole has no fault, the part has none
pub both_parts : {A B : Type 0} (r : Result A ObjectFault) (f : A → Result B ObjectFault) (y : B) → (r >>= f) ≡ Ok y → (x : A) × (r ≡ Ok x) × (f x ≡ Ok y)
both_parts (Ok x) f y e = (x, refl, e)
both_parts (Err d) f y e = absurd (ok_not_err y d (sym e))

-- the part's fault, or that of what follows
pub which_part : {A B : Type 0} (r : Result A ObjectFault) (f : A → Result B ObjectFault) (d : ObjectFault) → (r >>= f) ≡ Err d → (r ≡ Err d) ⊎ ((x : A) × (r ≡ Ok x) × (f x ≡ Err d))
which_part (Ok x) f d e = inr (x, refl, e)
which_part {A = A} {B = B} (Err g) f d e = inl (ap (λ h. Err h) (err_one {A = B} g d e))

pub then_is : {A B : Type 0} (r : Result A ObjectFault) (x : A) (f : A → Result B ObjectFault) (y : B) → r ≡ Ok x → f x ≡ Ok y → (r >>= f) ≡ Ok y
then_is r x f y e h = ap (λ q. q >>= f) e ∙ h

-- ---- the numbers of a field

pub numbered_is : (field : ℕ) (numbers : List (ℕ × ℕ)) → numbered field numbers ≡ held_by numbers field
numbered_is field [] = refl
numbered_is field ((number, n) ∷ numbers) = by (eqb number field) (numbered field numbers) (filter (λ (pair : ℕ × ℕ). eqb pair.0 field) numbers) (numbered_is field numbers)
  where
    by : (b : Bool) (xs : List ℕ) (rest : List (ℕ × ℕ)) → xs ≡ map (λ (pair : ℕ × ℕ). pair.1) rest → cond b (n ∷ xs) xs ≡ map (λ (pair : ℕ × ℕ). pair.1) (cond b ((number, n) ∷ rest) rest)
    by true xs rest e = ap (λ l. n ∷ l) e
    by false xs rest e = e

-- ---- the last number

last_some : (o : Option ℕ) (xs : List ℕ) (n : ℕ) → last_or o xs ≡ Some n → ((xs ≡ []) × (o ≡ Some n)) ⊎ IsLastOf xs n
last_some o [] n e = inl (refl, e)
last_some o (x ∷ xs) n e =
    elim (last_some (Some x) xs n e) [
      | inl h ↦ inr ([], ap (λ l. x ∷ l) h.0 ∙ ap (λ k. k ∷ []) (inside x n h.1))
      | inr h ↦ inr (x ∷ h.0, ap (λ l. x ∷ l) h.1)
    ]
  where
    inside : (x n : ℕ) → ◌≡◌ {A = Option ℕ} (Some x) (Some n) → x ≡ n
    inside x n h = cc

last_front : (o : Option ℕ) (front : List ℕ) (n : ℕ) → last_or o (front ++ n ∷ []) ≡ Some n
last_front o [] n = refl
last_front o (x ∷ front) n = last_front (Some x) front n

last_none : (o : Option ℕ) (xs : List ℕ) → last_or o xs ≡ None → xs ≡ []
last_none o [] e = refl
last_none o (x ∷ xs) e = absurd (never x xs e)
  where
    never : (x : ℕ) (xs : List ℕ) → last_or (Some x) xs ≡ None → ⊥
    never x [] e = cc
    never x (y ∷ ys) e = never y ys e

pub one_ok : (at field : ℕ) (xs : List ℕ) (n : ℕ) → one_number at field xs ≡ Ok n → IsLastOf xs n
one_ok at field xs n e = by (last_or None xs) refl e
  where
    by : (o : Option ℕ) → last_or None xs ≡ o → needed at field o ≡ Ok n → IsLastOf xs n
    by None h e = absurd cc
    by (Some m) h e =
        elim (last_some None xs n (h ∙ ap (λ k. Some k) (ok_one m n e))) [
          | inl h2 ↦ absurd (nothing h2.1)
          | inr is ↦ is
        ]
      where
        nothing : ◌≡◌ {A = Option ℕ} None (Some n) → ⊥
        nothing h = cc

pub one_is : (at field : ℕ) (xs : List ℕ) (n : ℕ) → IsLastOf xs n → one_number at field xs ≡ Ok n
one_is at field xs n is = ap (λ o. needed at field o) (ap (last_or None) is.1 ∙ last_front None is.0 n)

pub one_bad : (at field : ℕ) (xs : List ℕ) (f : ObjectFault) → one_number at field xs ≡ Err f → (f ≡ faults.MissingField at field) × (xs ≡ [])
one_bad at field xs f e = by (last_or None xs) refl e
  where
    by : (o : Option ℕ) → last_or None xs ≡ o → needed at field o ≡ Err f → (f ≡ faults.MissingField at field) × (xs ≡ [])
    by None h e = (err_one {A = ℕ} f (faults.MissingField at field) (sym e), last_none None xs h)
    by (Some m) h e = absurd (ok_not_err m f e)

pub some_last : (xs : List ℕ) (n : ℕ) → IsLastOf xs n → xs ≡ [] → ⊥
some_last xs n (front, e) none = by front (sym e ∙ none)
  where
    by : (front : List ℕ) → front ++ n ∷ [] ≡ [] → ⊥
    by [] h = cc
    by (x ∷ front) h = cc

-- ---- lists of one length

pub many_ok : {A B : Type 0} (at : ℕ) (xs : List A) (ys : List B) (u : Unit {0}) → as_many at xs ys ≡ Ok u → length xs ≡ length ys
many_ok at xs ys u e = by (eqb (length xs) (length ys)) refl e
  where
    by : (b : Bool) → eqb (length xs) (length ys) ≡ b → cond b (Ok (tt {0})) (Err (faults.Uneven at)) ≡ Ok u → length xs ≡ length ys
    by true h e = eqb-true (length xs) (length ys) h
    by false h e = absurd (ok_not_err u (faults.Uneven at) (sym e))

same_test : (n : ℕ) → eqb n n ≡ true
same_test n = grind (arith, nat_tests)

pub many_is : {A B : Type 0} (at : ℕ) (xs : List A) (ys : List B) → length xs ≡ length ys → as_many at xs ys ≡ Ok (tt {0})
many_is at xs ys e = ap (λ n. cond (eqb (length xs) n) (Ok tt) (Err (faults.Uneven at))) (sym e) ∙ ap (λ b. cond b (Ok (tt {0})) (Err (faults.Uneven at))) (same_test (length xs))

pub many_bad : {A B : Type 0} (at : ℕ) (xs : List A) (ys : List B) (f : ObjectFault) → as_many at xs ys ≡ Err f → (f ≡ faults.Uneven at) × (length xs ≢ length ys)
many_bad at xs ys f e = by (eqb (length xs) (length ys)) refl e
  where
    by : (b : Bool) → eqb (length xs) (length ys) ≡ b → cond b (Ok (tt {0})) (Err (faults.Uneven at)) ≡ Err f → (f ≡ faults.Uneven at) × (length xs ≢ length ys)
    by true h e = absurd (ok_not_err (tt {0}) f e)
    by false h e = (err_one {A = Unit {0}} f (faults.Uneven at) (sym e), λ same. ok_not_err (tt {0}) (faults.Uneven at) (sym (many_is at xs ys same) ∙ ap (λ b. cond b (Ok (tt {0})) (Err (faults.Uneven at))) h))

-- ---- pairs

zipped : (keys values : List ℕ) → length keys ≡ length values → ArePairs keys values (zip keys values)
zipped [] [] e = record { keys_are = refl; values_are = refl }
zipped [] (v ∷ vs) e = absurd (omega arith)
zipped (k ∷ ks) [] e = absurd (omega arith)
zipped (k ∷ ks) (v ∷ vs) e =
    let more = zipped ks vs (omega arith) in
    record { keys_are = ap (λ l. k ∷ l) more.keys_are; values_are = ap (λ l. v ∷ l) more.values_are }

zip_back : (pairs : List (ℕ × ℕ)) → zip (map (λ (pair : ℕ × ℕ). pair.0) pairs) (map (λ (pair : ℕ × ℕ). pair.1) pairs) ≡ pairs
zip_back [] = refl
zip_back (pair ∷ pairs) = ap (λ l. pair ∷ l) (zip_back pairs)

length_map : {A B : Type 0} (f : A → B) (xs : List A) → length (map f xs) ≡ length xs
length_map f [] = refl
length_map f (x ∷ xs) = ap suc (length_map f xs)

pub pairs_even : (keys values : List ℕ) (pairs : List (ℕ × ℕ)) → ArePairs keys values pairs → length keys ≡ length values
pairs_even keys values pairs are =
    ap (λ l. length l) are.keys_are ∙ length_map (λ (pair : ℕ × ℕ). pair.0) pairs ∙ sym (length_map (λ (pair : ℕ × ℕ). pair.1) pairs) ∙ sym (ap (λ l. length l) are.values_are)

pub pairs_ok : (at : ℕ) (keys values : List ℕ) (pairs : List (ℕ × ℕ)) → pairs_of at keys values ≡ Ok pairs → ArePairs keys values pairs
pairs_ok at keys values pairs e =
    let p = both_parts (as_many at keys values) (λ even. Ok (zip keys values)) pairs e in
    subst (ArePairs keys values) (ok_one (zip keys values) pairs p.2) (zipped keys values (many_ok at keys values p.0 p.1))

pub pairs_is : (at : ℕ) (keys values : List ℕ) (pairs : List (ℕ × ℕ)) → ArePairs keys values pairs → pairs_of at keys values ≡ Ok pairs
pairs_is at keys values pairs are =
    then_is (as_many at keys values) tt (λ even. Ok (zip keys values)) pairs (many_is at keys values (pairs_even keys values pairs are))
    (ap (λ l. Ok l) (ap (λ l. zip l values) are.keys_are ∙ ap (λ l. zip (map (λ (pair : ℕ × ℕ). pair.0) pairs) l) are.values_are ∙ zip_back pairs))

pub pairs_bad : (at : ℕ) (keys values : List ℕ) (f : ObjectFault) → pairs_of at keys values ≡ Err f → (f ≡ faults.Uneven at) × (length keys ≢ length values)
pairs_bad at keys values f e =
    elim (which_part (as_many at keys values) (λ even. Ok (zip keys values)) f e) [
      | inl bad ↦ many_bad at keys values f bad
      | inr h ↦ absurd (ok_not_err (zip keys values) f h.2)
    ]

-- ---- sums

sum_first : (n : ℕ) (ns : List ℕ) (last : ℤ) → last +ℤ sum_at 0 (n ∷ ns) ≡ last +ℤ unzigzag_of n
sum_first n ns last = by (unzigzag_of n)
  where
    by : (z : ℤ) → last +ℤ (z +ℤ pos 0) ≡ last +ℤ z
    by z = omega (arith, ints)

sum_next : (i n : ℕ) (ns : List ℕ) (last : ℤ) → last +ℤ sum_at (suc i) (n ∷ ns) ≡ (last +ℤ unzigzag_of n) +ℤ sum_at i ns
sum_next i n ns last =
    let e : suc i + 1 ≡ suc (i + 1) = omega arith in
    ap (λ k. last +ℤ summed (take k (n ∷ ns))) e ∙ by (unzigzag_of n) (sum_at i ns)
  where
    by : (z s : ℤ) → last +ℤ (z +ℤ s) ≡ (last +ℤ z) +ℤ s
    by z s = omega (arith, ints)

pub record SumsFrom (last : ℤ) (ns : List ℕ) (zs : List ℤ) : Type 0 where
  pub many : length zs ≡ length ns
  pub each : (i : ℕ) → i < length ns → slice_get zs i ≡ Some (last +ℤ sum_at i ns)
  pub fit : (i : ℕ) → i < length ns → FitsSigned w64 (last +ℤ sum_at i ns)

fits_true : (z : ℤ) → fits_i64 z ≡ true → FitsSigned w64 z
fits_true (pos n) e = record { sfits = omega (arith, ltb-true n (2 ^ 63) e) }
fits_true (negsuc n) e = record { sfits = omega (arith, ltb-true n (2 ^ 63) e) }

fits_is : (z : ℤ) → FitsSigned w64 z → fits_i64 z ≡ true
fits_is (pos n) fits = lt-ltb n (2 ^ 63) (omega (arith, fits.sfits))
fits_is (negsuc n) fits = lt-ltb n (2 ^ 63) (omega (arith, fits.sfits))

fits_false : (z : ℤ) → fits_i64 z ≡ false → FitsSigned w64 z → ⊥
fits_false z e fits = true_false (sym (fits_is z fits) ∙ e)
  where
    true_false : true ≡ false → ⊥
    true_false h = cc

from_ok : (at : ℕ) (last : ℤ) (ns : List ℕ) (zs : List ℤ) → sums_from at last ns ≡ Ok zs → SumsFrom last ns zs
from_ok at last [] zs e =
    let none : [] ≡ zs = ok_one [] zs e in
    record { many = sym (ap (λ l. length l) none); each = λ i h. absurd (omega arith); fit = λ i h. absurd (omega arith) }
from_ok at last (n ∷ ns) zs e = by (fits_i64 (last +ℤ unzigzag_of n)) refl (from_ok at (last +ℤ unzigzag_of n) ns) e
  where
    by : (b : Bool) → fits_i64 (last +ℤ unzigzag_of n) ≡ b → ((ys : List ℤ) → sums_from at (last +ℤ unzigzag_of n) ns ≡ Ok ys → SumsFrom (last +ℤ unzigzag_of n) ns ys)
        → cond b (sums_from at (last +ℤ unzigzag_of n) ns >>= λ others. Ok ((last +ℤ unzigzag_of n) ∷ others)) (Err (faults.BadNumber at)) ≡ Ok zs → SumsFrom last (n ∷ ns) zs
    by false h rest e = absurd (ok_not_err zs (faults.BadNumber at) (sym e))
    by true h rest e =
        let p = both_parts (sums_from at (last +ℤ unzigzag_of n) ns) (λ others. Ok ((last +ℤ unzigzag_of n) ∷ others)) zs e in
        let more = rest p.0 p.1 in
        let whole : ((last +ℤ unzigzag_of n) ∷ p.0) ≡ zs = ok_one ((last +ℤ unzigzag_of n) ∷ p.0) zs p.2 in
        subst (SumsFrom last (n ∷ ns)) whole
        (record { many = ap suc more.many; each = each_of p.0 more; fit = fit_of p.0 more })
      where
        each_of : (ys : List ℤ) → SumsFrom (last +ℤ unzigzag_of n) ns ys → (i : ℕ) → i < length (n ∷ ns) → slice_get ((last +ℤ unzigzag_of n) ∷ ys) i ≡ Some (last +ℤ sum_at i (n ∷ ns))
        each_of ys more zero k = ap (λ z. Some z) (sym (sum_first n ns last))
        each_of ys more (suc i) k = more.each i (omega arith) ∙ ap (λ z. Some z) (sym (sum_next i n ns last))

        fit_of : (ys : List ℤ) → SumsFrom (last +ℤ unzigzag_of n) ns ys → (i : ℕ) → i < length (n ∷ ns) → FitsSigned w64 (last +ℤ sum_at i (n ∷ ns))
        fit_of ys more zero k = subst (FitsSigned w64) (sym (sum_first n ns last)) (fits_true (last +ℤ unzigzag_of n) h)
        fit_of ys more (suc i) k = subst (FitsSigned w64) (sym (sum_next i n ns last)) (more.fit i (omega arith))

-- one of the sums doesn't fit
abbrev BadFrom : ℤ → List ℕ → Type 0
BadFrom last ns = (i : ℕ) × (i < length ns) × (FitsSigned w64 (last +ℤ sum_at i ns) → ⊥)

from_bad : (at : ℕ) (last : ℤ) (ns : List ℕ) (f : ObjectFault) → sums_from at last ns ≡ Err f → (f ≡ faults.BadNumber at) × BadFrom last ns
from_bad at last [] f e = absurd (ok_not_err [] f e)
from_bad at last (n ∷ ns) f e = by (fits_i64 (last +ℤ unzigzag_of n)) refl (from_bad at (last +ℤ unzigzag_of n) ns f) e
  where
    by : (b : Bool) → fits_i64 (last +ℤ unzigzag_of n) ≡ b → (sums_from at (last +ℤ unzigzag_of n) ns ≡ Err f → (f ≡ faults.BadNumber at) × BadFrom (last +ℤ unzigzag_of n) ns)
        → cond b (sums_from at (last +ℤ unzigzag_of n) ns >>= λ others. Ok ((last +ℤ unzigzag_of n) ∷ others)) (Err (faults.BadNumber at)) ≡ Err f → (f ≡ faults.BadNumber at) × BadFrom last (n ∷ ns)
    by false h rest e =
        (err_one {A = List ℤ} f (faults.BadNumber at) (sym e), (0, omega arith, λ fits. fits_false (last +ℤ unzigzag_of n) h (subst (FitsSigned w64) (sum_first n ns last) fits)))
    by true h rest e =
        elim (which_part (sums_from at (last +ℤ unzigzag_of n) ns) (λ others. Ok ((last +ℤ unzigzag_of n) ∷ others)) f e) [
          | inl bad ↦
              (let p = rest bad in
              (p.0, (suc p.1.0, up p.1.0 p.1.1, λ fits. p.1.2 (subst (FitsSigned w64) (sum_next p.1.0 n ns last) fits))))
          | inr good ↦ absurd (ok_not_err ((last +ℤ unzigzag_of n) ∷ good.0) f good.2)
        ]
      where
        up : (i : ℕ) → i < length ns → suc i < length (n ∷ ns)
        up i h = omega arith

from_zero : (i : ℕ) (ns : List ℕ) → pos 0 +ℤ sum_at i ns ≡ sum_at i ns
from_zero i ns = by (sum_at i ns)
  where
    by : (z : ℤ) → pos 0 +ℤ z ≡ z
    by z = omega (arith, ints)

pub sums_ok : (at : ℕ) (ns : List ℕ) (zs : List ℤ) → sums_of at ns ≡ Ok zs → AreSums ns zs
sums_ok at ns zs e =
    let from = from_ok at (pos 0) ns zs e in
    record {
      many = from.many;
      each = λ i h. from.each i h ∙ ap (λ z. Some z) (from_zero i ns);
      fit = λ i h. subst (FitsSigned w64) (from_zero i ns) (from.fit i h);
    }

pub sums_bad : (at : ℕ) (ns : List ℕ) (f : ObjectFault) → sums_of at ns ≡ Err f → (f ≡ faults.BadNumber at) × HasBadSum ns
sums_bad at ns f e =
    let p = from_bad at (pos 0) ns f e in
    (p.0, (p.1.0, p.1.1, λ fits. p.1.2 (subst (FitsSigned w64) (sym (from_zero p.1.0 ns)) fits)))

-- lists with the same items at each index
pub same_items : {A : Type 0} (xs ys : List A) → length xs ≡ length ys → ((i : ℕ) → i < length xs → slice_get xs i ≡ slice_get ys i) → xs ≡ ys
same_items [] [] e same = refl
same_items [] (y ∷ ys) e same = absurd (omega arith)
same_items (x ∷ xs) [] e same = absurd (omega arith)
same_items (x ∷ xs) (y ∷ ys) e same =
    let first : x ≡ y = inside x y (same 0 (omega arith)) in
    let rest : xs ≡ ys = same_items xs ys (omega arith) (λ i h. same (suc i) (omega arith)) in
    ap (λ a. a ∷ xs) first ∙ ap (λ l. y ∷ l) rest
  where
    inside : {A : Type 0} (x y : A) → ◌≡◌ {A = Option A} (Some x) (Some y) → x ≡ y
    inside x y h = cc

pub one_sums : (ns : List ℕ) (xs ys : List ℤ) → AreSums ns xs → AreSums ns ys → xs ≡ ys
one_sums ns xs ys a b = same_items xs ys (a.many ∙ sym b.many) (λ i h. a.each i (subst (λ n. i < n) a.many h) ∙ sym (b.each i (subst (λ n. i < n) a.many h)))

pub no_bad_sum : (ns : List ℕ) (zs : List ℤ) → AreSums ns zs → HasBadSum ns → ⊥
no_bad_sum ns zs are (i, h, never) = never (are.fit i h)

pub sums_is : (at : ℕ) (ns : List ℕ) (zs : List ℤ) → AreSums ns zs → sums_of at ns ≡ Ok zs
sums_is at ns zs are =
    elim (either_way (sums_of at ns)) [
      | inl h ↦ h.1 ∙ ap (λ l. Ok l) (one_sums ns h.0 zs (sums_ok at ns h.0 h.1) are)
      | inr h ↦ absurd (no_bad_sum ns zs are (sums_bad at ns h.0 h.1).1)
    ]

-- ---- groups

abbrev pub Groups : Type 0
Groups = List (List (ℕ × ℕ))

exactly_is : (at count : ℕ) (o : Option Groups) (groups : Groups) → exactly at count o ≡ Ok groups → (o ≡ Some groups) × (length groups ≡ count)
exactly_is at count None groups e = absurd (ok_not_err groups (faults.Uneven at) (sym e))
exactly_is at count (Some gs) groups e = by (eqb (length gs) count) refl e
  where
    by : (b : Bool) → eqb (length gs) count ≡ b → cond b (Ok gs) (Err (faults.Uneven at)) ≡ Ok groups → (Some gs ≡ Some groups) × (length groups ≡ count)
    by true h e =
        let them = ok_one gs groups e in
        (ap (λ l. Some l) them, sym (ap (λ l. length l) them) ∙ eqb-true (length gs) count h)
    by false h e = absurd (ok_not_err groups (faults.Uneven at) (sym e))

groups_ok_in : (numbers : List ℕ) (groups : Groups) → groups_in numbers ≡ Some groups → AreWritten numbers groups
groups_ok_in [] groups e = subst (AreWritten []) (inside e) (record { numbers_are = refl; have_keys = tt })
  where
    inside : ◌≡◌ {A = Option Groups} (Some []) (Some groups) → [] ≡ groups
    inside h = cc
groups_ok_in (zero ∷ ns) groups e = by (groups_in ns) (groups_ok_in ns) e
  where
    by : (o : Option Groups) → ((gs : Groups) → o ≡ Some gs → AreWritten ns gs) → option_and_then (λ gs. Some ([] ∷ gs)) o ≡ Some groups → AreWritten (zero ∷ ns) groups
    by None rest e = absurd cc
    by (Some gs) rest e =
        let whole : ([] ∷ gs) ≡ groups = cc e in
        let more = rest gs refl in
        subst (AreWritten (zero ∷ ns)) whole (record { numbers_are = ap (λ l. zero ∷ l) more.numbers_are; have_keys = (tt, more.have_keys) })
groups_ok_in (suc k ∷ []) groups e = absurd cc
groups_ok_in (suc k ∷ v ∷ ns) groups e = by (groups_in ns) (groups_ok_in ns) e
  where
    not_zero : suc k ≡ 0 → ⊥
    not_zero h = omega arith

    by : (o : Option Groups) → ((gs : Groups) → o ≡ Some gs → AreWritten ns gs) → option_and_then (into_first (suc k, v)) o ≡ Some groups → AreWritten (suc k ∷ v ∷ ns) groups
    by None rest e = absurd cc
    by (Some []) rest e = absurd cc
    by (Some (g ∷ gs)) rest e =
        let whole : (((suc k, v) ∷ g) ∷ gs) ≡ groups = cc e in
        let more = rest (g ∷ gs) refl in
        subst (AreWritten (suc k ∷ v ∷ ns)) whole
        (record { numbers_are = ap (λ l. suc k ∷ v ∷ l) more.numbers_are; have_keys = ((not_zero, more.have_keys.0), more.have_keys.1) })

-- one group more
group_more : (g : List (ℕ × ℕ)) (gs : Groups) (rest : List ℕ) → HasKeys g → groups_in rest ≡ Some gs → groups_in (written g ++ rest) ≡ Some (g ∷ gs)
group_more [] gs rest keys e = ap (option_and_then (λ hs. Some ([] ∷ hs))) e
group_more ((zero, v) ∷ g) gs rest keys e = absurd (keys.0 refl)
group_more ((suc k, v) ∷ g) gs rest keys e = ap (option_and_then (into_first (suc k, v))) (group_more g gs rest keys.1 e)

groups_is_in : (groups : Groups) → AllByRecursion HasKeys groups → groups_in (flat_map written groups) ≡ Some groups
groups_is_in [] keys = refl
groups_is_in (g ∷ gs) keys = group_more g gs (flat_map written gs) keys.0 (groups_is_in gs keys.1)

empty_groups : (count : ℕ) → AllByRecursion (λ (group : List (ℕ × ℕ)). group ≡ []) (replicate count [])
empty_groups zero = tt
empty_groups (suc n) = (refl, empty_groups n)

replicated : (groups : Groups) → AllByRecursion (λ (group : List (ℕ × ℕ)). group ≡ []) groups → replicate (length groups) [] ≡ groups
replicated [] all = refl
replicated (g ∷ gs) (none, rest) = ap (λ l. l ∷ replicate (length gs) []) (sym none) ∙ ap (λ l. g ∷ l) (replicated gs rest)

pub groups_ok : (at count : ℕ) (numbers : List ℕ) (groups : Groups) → groups_of at count numbers ≡ Ok groups → AreGroups numbers groups × (length groups ≡ count)
groups_ok at count [] groups e =
    let them : replicate count [] ≡ groups = ok_one (replicate count []) groups e in
    (inr (refl, subst (AllByRecursion (λ (group : List (ℕ × ℕ)). group ≡ [])) them (empty_groups count)), sym (ap (λ l. length l) them) ∙ length-replicate count [])
groups_ok at count (n ∷ ns) groups e =
    let p = exactly_is at count (groups_in (n ∷ ns)) groups e in
    (inl (groups_ok_in (n ∷ ns) groups p.0), p.1)

no_number : (groups : Groups) → [] ≡ flat_map written groups → AllByRecursion (λ (group : List (ℕ × ℕ)). group ≡ []) groups
no_number [] e = tt
no_number ([] ∷ gs) e = absurd cc
no_number ((pair ∷ g) ∷ gs) e = absurd cc

none_written : (at : ℕ) (groups : Groups) → AllByRecursion (λ (group : List (ℕ × ℕ)). group ≡ []) groups → (count : ℕ) → length groups ≡ count → groups_of at count [] ≡ Ok groups
none_written at groups all count many = ap (λ n. Ok (replicate n [])) (sym many) ∙ ap (λ l. Ok l) (replicated groups all)

pub groups_is : (at count : ℕ) (numbers : List ℕ) (groups : Groups) → AreGroups numbers groups → length groups ≡ count → groups_of at count numbers ≡ Ok groups
groups_is at count [] groups (inl are) many = none_written at groups (no_number groups are.numbers_are) count many
groups_is at count [] groups (inr none) many = none_written at groups none.1 count many
groups_is at count (n ∷ ns) groups (inl are) many =
    ap (exactly at count) (ap groups_in are.numbers_are ∙ groups_is_in groups are.have_keys)
    ∙ ap (λ b. cond b (Ok groups) (Err (faults.Uneven at))) (ap (λ m. eqb m count) many ∙ same_test count)
groups_is at count (n ∷ ns) groups (inr none) many = absurd cc

pub groups_bad : (at count : ℕ) (numbers : List ℕ) (f : ObjectFault) → groups_of at count numbers ≡ Err f → (f ≡ faults.Uneven at) × ((groups : Groups) → AreGroups numbers groups → length groups ≢ count)
groups_bad at count numbers f e = (
  uneven numbers e,
  λ groups are many. ok_not_err groups f (sym (groups_is at count numbers groups are many) ∙ e),
)
  where
    tested : (b : Bool) (gs : Groups) → cond b (Ok gs) (Err (faults.Uneven at)) ≡ Err f → f ≡ faults.Uneven at
    tested true gs e = absurd (ok_not_err gs f e)
    tested false gs e = err_one {A = Groups} f (faults.Uneven at) (sym e)

    by : (o : Option Groups) → exactly at count o ≡ Err f → f ≡ faults.Uneven at
    by None e = err_one {A = Groups} f (faults.Uneven at) (sym e)
    by (Some gs) e = tested (eqb (length gs) count) gs e

    uneven : (numbers : List ℕ) → groups_of at count numbers ≡ Err f → f ≡ faults.Uneven at
    uneven [] e = absurd (ok_not_err (replicate count []) f e)
    uneven (n ∷ ns) e = by (groups_in (n ∷ ns)) e
