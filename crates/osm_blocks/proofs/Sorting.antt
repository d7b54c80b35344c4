-- For each list of objects, one list has them in order of id; or there is a least id that stands twice.
use Rattle.std.proofs.Common.{◌≡◌, ◌⊎◌, inl, inr, ℕ, zero, suc, ◌<◌, cond, Bool, true, false, ℤ, ◌<ℤ◌, ◌≤ℤ◌, List, [], ◌∷◌, length, get_or, Option, Some, None, refl, sym, ap, ◌∙◌, subst, arith}
use Rattle.std.specs.Prelude.{int_lt, IsPermutation, Contains}
use Rattle.std.proofs.lemmas.Int.{ints}
use Rattle.std.proofs.lemmas.List.Sorted.{IsPermutation-refl, IsPermutation-sym, IsPermutation-trans, IsPermutation-cons, IsPermutation-middle, Contains-permutation}
use Rattle.osm_blocks.specs.Order.{InOrder, IsLeastTwice}
use Rattle.osm_blocks.specs.Steps.{next_twice}
use Rattle.osm_blocks.proofs.Rising.{Above, From, Rises, Climbs, from_lower, pairs_rise, rises_pairs}
use Rattle.osm_blocks.proofs.Twice.{none_rises, some_least, least_moved}

-- ---- a list in order

abbrev insert : {X : Type 0} → (X → ℤ) → X → List X → List X
insert id_of x [] = x ∷ []
insert id_of x (y ∷ ys) = cond (int_lt (id_of y) (id_of x)) (y ∷ insert id_of x ys) (x ∷ y ∷ ys)

abbrev sorted : {X : Type 0} → (X → ℤ) → List X → List X
sorted id_of [] = []
sorted id_of (x ∷ xs) = insert id_of x (sorted id_of xs)

insert_by : {X : Type 0} (id_of : X → ℤ) (x y : X) (ys : List X) (b : Bool) → int_lt (id_of y) (id_of x) ≡ b → insert id_of x (y ∷ ys) ≡ cond b (y ∷ insert id_of x ys) (x ∷ y ∷ ys)
insert_by id_of x y ys b e = ap (λ t. cond t (y ∷ insert id_of x ys) (x ∷ y ∷ ys)) e

insert_same : {X : Type 0} (id_of : X → ℤ) (x : X) (ys : List X) → IsPermutation (x ∷ ys) (insert id_of x ys)
insert_same id_of x [] = IsPermutation-refl (x ∷ [])
insert_same id_of x (y ∷ ys) = by_test (insert_same id_of x ys) (int_lt (id_of y) (id_of x)) refl
  where
    by_test : IsPermutation (x ∷ ys) (insert id_of x ys) → (b : Bool) → int_lt (id_of y) (id_of x) ≡ b → IsPermutation (x ∷ y ∷ ys) (insert id_of x (y ∷ ys))
    by_test others true e =
        let swapped = IsPermutation-sym (y ∷ x ∷ ys) (x ∷ y ∷ ys) (IsPermutation-middle (y ∷ []) x ys) in
        let rest = IsPermutation-cons y (x ∷ ys) (insert id_of x ys) others in
        subst (IsPermutation (x ∷ y ∷ ys)) (sym (insert_by id_of x y ys true e)) (IsPermutation-trans (x ∷ y ∷ ys) (y ∷ x ∷ ys) (y ∷ insert id_of x ys) swapped rest)
    by_test others false e = subst (IsPermutation (x ∷ y ∷ ys)) (sym (insert_by id_of x y ys false e)) (IsPermutation-refl (x ∷ y ∷ ys))

lt-le : (a b : ℤ) → int_lt a b ≡ true → a ≤ℤ b
lt-le a b e = omega (arith, ints, e)

not_below : (a b : ℤ) → int_lt a b ≡ false → b ≤ℤ a
not_below a b e = omega (arith, ints, e)

insert_from : {X : Type 0} (id_of : X → ℤ) (n : ℤ) (x : X) (ys : List X) → n ≤ℤ id_of x → From id_of n ys → From id_of n (insert id_of x ys)
insert_from id_of n x [] le h = (le, tt)
insert_from id_of n x (y ∷ ys) le h = by_test (insert_from id_of n x ys le h.1) (int_lt (id_of y) (id_of x)) refl
  where
    by_test : From id_of n (insert id_of x ys) → (b : Bool) → int_lt (id_of y) (id_of x) ≡ b → From id_of n (insert id_of x (y ∷ ys))
    by_test others true e = subst (From id_of n) (sym (insert_by id_of x y ys true e)) (h.0, others)
    by_test others false e = subst (From id_of n) (sym (insert_by id_of x y ys false e)) (le, h)

insert_climbs : {X : Type 0} (id_of : X → ℤ) (x : X) (ys : List X) → Climbs id_of ys → Climbs id_of (insert id_of x ys)
insert_climbs id_of x [] h = (tt, tt)
insert_climbs id_of x (y ∷ ys) h = by_test (insert_climbs id_of x ys h.1) (int_lt (id_of y) (id_of x)) refl
  where
    by_test : Climbs id_of (insert id_of x ys) → (b : Bool) → int_lt (id_of y) (id_of x) ≡ b → Climbs id_of (insert id_of x (y ∷ ys))
    by_test others true e =
        subst (Climbs id_of) (sym (insert_by id_of x y ys true e)) (insert_from id_of (id_of y) x ys (lt-le (id_of y) (id_of x) e) h.0, others)
    by_test others false e =
        let le = not_below (id_of y) (id_of x) e in
        subst (Climbs id_of) (sym (insert_by id_of x y ys false e)) ((le, from_lower id_of (id_of x) (id_of y) ys le h.0), h)

sorted_same : {X : Type 0} (id_of : X → ℤ) (xs : List X) → IsPermutation xs (sorted id_of xs)
sorted_same id_of [] = IsPermutation-refl []
sorted_same id_of (x ∷ xs) =
    IsPermutation-trans (x ∷ xs) (x ∷ sorted id_of xs) (insert id_of x (sorted id_of xs)) (IsPermutation-cons x xs (sorted id_of xs) (sorted_same id_of xs)) (insert_same id_of x (sorted id_of xs))

sorted_climbs : {X : Type 0} (id_of : X → ℤ) (xs : List X) → Climbs id_of (sorted id_of xs)
sorted_climbs id_of [] = tt
sorted_climbs id_of (x ∷ xs) = insert_climbs id_of x (sorted id_of xs) (sorted_climbs id_of xs)

-- ---- in order, or an id twice

pub climbs_order : {X : Type 0} (id_of : X → ℤ) (all list : List X) → IsPermutation all list → Climbs id_of list → next_twice id_of list ≡ None → InOrder id_of all list
climbs_order id_of all list same climbs e = record { same = same; rises = pairs_rise id_of list (none_rises id_of list climbs e) }

pub climbs_twice : {X : Type 0} (id_of : X → ℤ) (all list : List X) (n : ℤ) → IsPermutation all list → Climbs id_of list → next_twice id_of list ≡ Some n → IsLeastTwice id_of all n
climbs_twice id_of all list n same climbs e = least_moved id_of all list n same (some_least id_of list n climbs e)

pub ordered : {X : Type 0} (id_of : X → ℤ) (all : List X) → ((list : List X) × InOrder id_of all list) ⊎ ((n : ℤ) × IsLeastTwice id_of all n)
ordered id_of all = by_next (next_twice id_of (sorted id_of all)) refl
  where
    by_next : (found : Option ℤ) → next_twice id_of (sorted id_of all) ≡ found → ((list : List _) × InOrder id_of all list) ⊎ ((n : ℤ) × IsLeastTwice id_of all n)
    by_next None e = inl (sorted id_of all, climbs_order id_of all (sorted id_of all) (sorted_same id_of all) (sorted_climbs id_of all) e)
    by_next (Some n) e = inr (n, climbs_twice id_of all (sorted id_of all) n (sorted_same id_of all) (sorted_climbs id_of all) e)

-- ---- one list in order

abbrev Among : {X : Type 0} → X → List X → Type 0
Among z [] = ⊥
Among z (x ∷ xs) = (x ≡ z) ⊎ Among z xs

among_at : {X : Type 0} (z d : X) (xs : List X) (k : ℕ) → k < length xs → get_or xs k d ≡ z → Among z xs
among_at z d [] k within e = absurd (omega arith)
among_at z d (x ∷ xs) zero within e = inl e
among_at z d (x ∷ xs) (suc k) within e = inr (among_at z d xs k (omega arith) e)

at_among : {X : Type 0} (z : X) (xs : List X) → Among z xs → Contains xs z
at_among z [] h = absurd h
at_among z (x ∷ xs) (inl e) = (0, omega arith, e)
at_among z (x ∷ xs) (inr h) = let rest = at_among z xs h in let within = rest.1 in (suc rest.0, omega arith, rest.2)

moved : {X : Type 0} (xs ys : List X) (z : X) → IsPermutation xs ys → Among z xs → Among z ys
moved xs ys z same h =
    let there = Contains-permutation xs ys z same (at_among z xs h) in
    among_at z z ys there.0 there.1 there.2

above_among : {X : Type 0} (id_of : X → ℤ) (n : ℤ) (xs : List X) (z : X) → Above id_of n xs → Among z xs → n <ℤ id_of z
above_among id_of n [] z a h = absurd h
above_among id_of n (x ∷ xs) z a (inl e) = subst (λ y. n <ℤ id_of y) e a.0
above_among id_of n (x ∷ xs) z a (inr h) = above_among id_of n xs z a.1 h

not_both : (a b : ℤ) → a <ℤ b → b <ℤ a → ⊥
not_both a b h k = omega (arith, ints)

not_self : (a b : ℤ) → a ≡ b → a <ℤ b → ⊥
not_self a b e h = omega (arith, ints, e)

same_rising : {X : Type 0} (id_of : X → ℤ) (xs ys : List X) → Rises id_of xs → Rises id_of ys → ((z : X) → Among z xs → Among z ys) → ((z : X) → Among z ys → Among z xs) → xs ≡ ys
same_rising id_of [] [] h k there back = refl
same_rising id_of [] (y ∷ ys) h k there back = absurd (back y (inl refl))
same_rising id_of (x ∷ xs) [] h k there back = absurd (there x (inl refl))
same_rising id_of (x ∷ xs) (y ∷ ys) h k there back = by_first (same_rising id_of xs ys h.1 k.1) (there x (inl refl)) (back y (inl refl))
  where
    behind : {u v : _} (us vs : List _) → u ≡ v → Above id_of (id_of u) us → ((z : _) → Among z (u ∷ us) → Among z (v ∷ vs)) → (z : _) → Among z us → Among z vs
    behind us vs e above all z h = elim (all z (inr h)) [
      | inl same ↦ absurd (not_self _ _ (ap id_of (e ∙ same)) (above_among id_of _ us z above h))
      | inr rest ↦ rest
    ]

    by_first : (((z : _) → Among z xs → Among z ys) → ((z : _) → Among z ys → Among z xs) → xs ≡ ys) → Among x (y ∷ ys) → Among y (x ∷ xs) → x ∷ xs ≡ y ∷ ys
    by_first others (inl e) other =
        let rest : xs ≡ ys = others (behind xs ys (sym e) h.0 there) (behind ys xs e k.0 back) in
        ap (λ z. z ∷ xs) (sym e) ∙ ap (λ zs. y ∷ zs) rest
    by_first others (inr a) (inl e) = absurd (not_self (id_of y) (id_of x) (ap id_of (sym e)) (above_among id_of (id_of y) ys x k.0 a))
    by_first others (inr a) (inr b) = absurd (not_both (id_of x) (id_of y) (above_among id_of (id_of x) xs y h.0 b) (above_among id_of (id_of y) ys x k.0 a))

pub in_order_one : {X : Type 0} (id_of : X → ℤ) (all xs ys : List X) → InOrder id_of all xs → InOrder id_of all ys → xs ≡ ys
in_order_one id_of all xs ys a b =
    let there = IsPermutation-trans xs all ys (IsPermutation-sym all xs a.same) b.same in
    let back = IsPermutation-trans ys all xs (IsPermutation-sym all ys b.same) a.same in
    same_rising id_of xs ys (rises_pairs id_of xs a.rises) (rises_pairs id_of ys b.rises) (λ z. moved xs ys z there) (λ z. moved ys xs z back)
