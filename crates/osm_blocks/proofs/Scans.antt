-- What the program's sort and its passes over a list tell.
use Rattle.std.proofs.Common.{◌≡◌, ℕ, suc, ◌+◌, ◌-◌, ◌<◌, ◌≤◌, drop, Ordering, cond, Bool, true, false, Less, Equal, Greater, ℤ, ◌≤ℤ◌, List, [], ◌∷◌, length, get_or, Option, Some, None, refl, sym, ap, ◌∙◌, subst, arith}
use Rattle.std.specs.Prelude.{int_lt, IsPermutation, IsSortedByKey}
use Rattle.std.specs.Ordering.{int_cmp, int_eq, is_eq, is_lt}
use Rattle.std.proofs.lemmas.List.{drop_more}
use Rattle.std.proofs.lemmas.Int.{ints}
use Rattle.std.proofs.lemmas.Bool.Decides.{Decides-int_eq, not_from_Decides}
use Rattle.osm_blocks.specs.Steps.{next_twice, Orders}
use Rattle.osm_blocks.proofs.Rising.{Climbs, from_lower}
use Rattle.osm_blocks.proofs.Sorting.{climbs_order, climbs_twice}

-- ---- lists of at most one

pub short_unlike : {X : Type 0} (id_of : X → ℤ) (xs : List X) → length xs ≤ 1 → next_twice id_of xs ≡ None
short_unlike id_of [] h = refl
short_unlike id_of (x ∷ []) h = refl
short_unlike id_of (x ∷ y ∷ xs) h = absurd (omega arith)

-- ---- one pair of neighbours

pair_at : {X : Type 0} (id_of : X → ℤ) (xs : List X) (i : ℕ) (d : X) → 1 ≤ i → i < length xs → drop (i - 1) xs ≡ get_or xs (i - 1) d ∷ get_or xs i d ∷ drop (i + 1) xs
pair_at id_of xs i d low h =
    drop_more xs (i - 1) d (omega arith) ∙ ap (λ l. get_or xs (i - 1) d ∷ l)
    (ap (λ n. drop n xs) {x = i - 1 + 1} {y = i} (omega arith) ∙ drop_more xs i d h)

same_test : (a b : ℤ) (cmp : Ordering) (same : Bool) → cmp ≡ int_cmp a b → same ≡ is_eq cmp → int_eq a b ≡ same
same_test a b cmp same is test = by_test (int_lt a b) (int_lt b a) (int_eq a b) refl refl refl
  where
    apart : (x y : ℤ) → int_lt x y ≡ true → int_eq x y ≡ true → ⊥
    apart x y l e = let same : x ≡ y = (Decides-int_eq x y).0 e in omega (arith, ints, l, same)

    apart_too : (x y : ℤ) → int_lt y x ≡ true → int_eq x y ≡ true → ⊥
    apart_too x y l e = let same : x ≡ y = (Decides-int_eq x y).0 e in omega (arith, ints, l, same)

    alike : (x y : ℤ) → int_lt x y ≡ false → int_lt y x ≡ false → int_eq x y ≡ false → ⊥
    alike x y l m e = let same : x ≡ y = omega (arith, ints, l, m) in not_from_Decides (int_eq x y) (Decides-int_eq x y) e same

    by_test : (l m e : Bool) → int_lt a b ≡ l → int_lt b a ≡ m → int_eq a b ≡ e → int_eq a b ≡ same
    by_test true m true p q r = absurd (apart a b p r)
    by_test true m false p q r = r ∙ sym (test ∙ ap is_eq is ∙ ap (λ t. is_eq (cond t Less (cond (int_lt b a) Greater Equal))) p)
    by_test false true true p q r = absurd (apart_too a b q r)
    by_test false true false p q r = r ∙ sym (test ∙ ap is_eq is ∙ ap (λ t. is_eq (cond t Less (cond (int_lt b a) Greater Equal))) p ∙ ap (λ t. is_eq (cond t Greater Equal)) q)
    by_test false false true p q r = r ∙ sym (test ∙ ap is_eq is ∙ ap (λ t. is_eq (cond t Less (cond (int_lt b a) Greater Equal))) p ∙ ap (λ t. is_eq (cond t Greater Equal)) q)
    by_test false false false p q r = absurd (alike a b p q r)

-- these ids stand one behind the other
next_test : {X : Type 0} (id_of : X → ℤ) (xs : List X) (i : ℕ) (d : X) (a b : ℤ) (cmp : Ordering) (same : Bool) → 1 ≤ i → i < length xs → a ≡ id_of (get_or xs (i - 1) d) → b ≡ id_of (get_or xs i d) → cmp ≡ int_cmp a b → same ≡ is_eq cmp
    → next_twice id_of (drop (i - 1) xs) ≡ cond same (Some a) (next_twice id_of (drop i xs))
next_test id_of xs i d a b cmp same low h first second is test =
    ap (next_twice id_of) (pair_at id_of xs i d low h) ∙
    (ap (λ t. cond t (Some (id_of (get_or xs (i - 1) d))) (next_twice id_of (get_or xs i d ∷ drop (i + 1) xs)))
    (ap (λ x. int_eq x (id_of (get_or xs i d))) (sym first) ∙ ap (λ x. int_eq a x) (sym second) ∙ same_test a b cmp same is test) ∙
    (ap (λ x. cond same (Some x) (next_twice id_of (get_or xs i d ∷ drop (i + 1) xs))) (sym first) ∙
    ap (λ l. cond same (Some a) (next_twice id_of l)) (sym (drop_more xs i d h))))

pub twice_here : {X : Type 0} (id_of : X → ℤ) (xs : List X) (i : ℕ) (d : X) (a b : ℤ) (cmp : Ordering) (same : Bool) → 1 ≤ i → i < length xs → a ≡ id_of (get_or xs (i - 1) d) → b ≡ id_of (get_or xs i d) → cmp ≡ int_cmp a b → same ≡ is_eq cmp → same ≡ true
    → next_twice id_of (drop (i - 1) xs) ≡ Some a
twice_here id_of xs i d a b cmp same low h first second is test holds =
    next_test id_of xs i d a b cmp same low h first second is test ∙ ap (λ t. cond t (Some a) (next_twice id_of (drop i xs))) holds

pub twice_later : {X : Type 0} (id_of : X → ℤ) (xs : List X) (i : ℕ) (d : X) (a b : ℤ) (cmp : Ordering) (same : Bool) → 1 ≤ i → i < length xs → a ≡ id_of (get_or xs (i - 1) d) → b ≡ id_of (get_or xs i d) → cmp ≡ int_cmp a b → same ≡ is_eq cmp → same ≡ false
    → next_twice id_of (drop (i - 1) xs) ≡ next_twice id_of (drop (i + 1 - 1) xs)
twice_later id_of xs i d a b cmp same low h first second is test holds =
    next_test id_of xs i d a b cmp same low h first second is test ∙ (ap (λ t. cond t (Some a) (next_twice id_of (drop i xs))) holds ∙
    ap (λ n. next_twice id_of (drop n xs)) {x = i} {y = i + 1 - 1} (omega arith))

-- ---- a list that was sorted

at_most : (a b : ℤ) → is_lt (int_cmp b a) ≡ false → a ≤ℤ b
at_most a b e = by_test (int_lt b a) refl
  where
    not_below : (x y : ℤ) → int_lt x y ≡ false → y ≤ℤ x
    not_below x y h = omega (arith, ints, h)

    by_test : (t : Bool) → int_lt b a ≡ t → a ≤ℤ b
    by_test true h = absurd (both_ways (sym (ap (λ t. is_lt (cond t Less (cond (int_lt a b) Greater Equal))) h) ∙ e))
      where
        both_ways : true ≡ false → ⊥
        both_ways x = cc
    by_test false h = not_below b a h

pub sorted_climbs : {X : Type 0} (id_of : X → ℤ) (xs : List X) → IsSortedByKey id_of int_cmp xs → Climbs id_of xs
sorted_climbs id_of [] h = tt
sorted_climbs id_of (x ∷ []) h = (tt, tt)
sorted_climbs id_of (x ∷ y ∷ xs) h =
    let le = at_most (id_of x) (id_of y) (h 0 x (omega arith) (omega arith)) in
    let rest = sorted_climbs id_of (y ∷ xs) (λ k d low within. later k d (h (suc k) d (omega arith) (omega arith))) in
    ((le, from_lower id_of (id_of x) (id_of y) xs le rest.0), rest)
  where
    later : (k : ℕ) (d : _) → is_lt (int_cmp (id_of (get_or (x ∷ y ∷ xs) (suc k + 1) d)) (id_of (get_or (y ∷ xs) k d))) ≡ false → is_lt (int_cmp (id_of (get_or (y ∷ xs) (k + 1) d)) (id_of (get_or (y ∷ xs) k d))) ≡ false
    later k d e = subst (λ n. is_lt (int_cmp (id_of (get_or (x ∷ y ∷ xs) n d)) (id_of (get_or (y ∷ xs) k d))) ≡ false) {x = suc k + 1} {y = suc (k + 1)} (omega arith) e

pub orders_sorted : {X : Type 0} (id_of : X → ℤ) (all list : List X) (found : Option ℤ) → IsPermutation all list → IsSortedByKey id_of int_cmp list → found ≡ next_twice id_of list → Orders id_of all list found
orders_sorted id_of all list None same sorted e = climbs_order id_of all list same (sorted_climbs id_of list sorted) (sym e)
orders_sorted id_of all list (Some n) same sorted e = climbs_twice id_of all list n same (sorted_climbs id_of list sorted) (sym e)
