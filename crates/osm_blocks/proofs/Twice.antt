-- In a list that climbs, the first id that the next one is too is the least that stands twice.
use Rattle.std.proofs.Common.{◌≡◌, ◌≤◌, cond, Bool, true, false, ℤ, ◌<ℤ◌, ◌≤ℤ◌, List, [], ◌∷◌, Option, Some, None, refl, sym, ap, ◌∙◌, subst, arith}
use Rattle.std.specs.Prelude.{int_lt, IsPermutation}
use Rattle.std.specs.Ordering.{int_eq}
use Rattle.std.proofs.lemmas.Int.{ints}
use Rattle.std.proofs.lemmas.Bool.Decides.{Decides-int_eq, not_from_Decides}
use Rattle.std.proofs.lemmas.List.Sorted.{sum_by-IsPermutation}
use Rattle.osm_blocks.specs.Order.{times, InOrder, AreUnlike, IsLeastTwice}
use Rattle.osm_blocks.specs.Steps.{next_twice}
use Rattle.osm_blocks.proofs.Rising.{From, Rises, Climbs, above_lower, times-cons, times-here, times-other, times-below, times-rises, rises_pairs}

-- ---- a list that climbs

apart : (a b : ℤ) → a ≤ℤ b → (a ≡ b → ⊥) → int_lt a b ≡ true
apart a b le never = by_test (int_lt a b) refl
  where
    same_when : (a b : ℤ) → a ≤ℤ b → int_lt a b ≡ false → a ≡ b
    same_when a b le e = omega (arith, ints, e)

    by_test : (t : Bool) → int_lt a b ≡ t → int_lt a b ≡ true
    by_test true e = e
    by_test false e = absurd (never (same_when a b le e))

below_is : (a b : ℤ) → int_lt a b ≡ true → a <ℤ b
below_is a b e = omega (arith, ints, e)

not_below : (a b : ℤ) → int_lt a b ≡ false → b ≤ℤ a
not_below a b e = omega (arith, ints, e)

lt-le : (a b : ℤ) → a <ℤ b → a ≤ℤ b
lt-le a b h = omega (arith, ints)

self-le : (a : ℤ) → a ≤ℤ a
self-le a = omega (arith, ints)

-- the test of the first two ids
next_by : {X : Type 0} (id_of : X → ℤ) (x y : X) (xs : List X) (b : Bool) → int_eq (id_of x) (id_of y) ≡ b → next_twice id_of (x ∷ y ∷ xs) ≡ cond b (Some (id_of x)) (next_twice id_of (y ∷ xs))
next_by id_of x y xs b e = ap (λ t. cond t (Some (id_of x)) (next_twice id_of (y ∷ xs))) e

pub none_rises : {X : Type 0} (id_of : X → ℤ) (xs : List X) → Climbs id_of xs → next_twice id_of xs ≡ None → Rises id_of xs
none_rises id_of [] h e = tt
none_rises id_of (x ∷ []) h e = (tt, tt)
none_rises id_of (x ∷ y ∷ xs) h e = by_test (none_rises id_of (y ∷ xs) h.1) (int_eq (id_of x) (id_of y)) refl
  where
    some_none : (n : ℤ) → ◌≡◌ {A = Option ℤ} (Some n) None → ⊥
    some_none n e = cc

    by_test : (next_twice id_of (y ∷ xs) ≡ None → Rises id_of (y ∷ xs)) → (b : Bool) → int_eq (id_of x) (id_of y) ≡ b → Rises id_of (x ∷ y ∷ xs)
    by_test others true t = absurd (some_none (id_of x) (sym (next_by id_of x y xs true t) ∙ e))
    by_test others false t =
        let rest = others (sym (next_by id_of x y xs false t) ∙ e) in
        let lt = below_is (id_of x) (id_of y) (apart (id_of x) (id_of y) h.0.0 (not_from_Decides (int_eq (id_of x) (id_of y)) (Decides-int_eq (id_of x) (id_of y)) t)) in
        ((lt, above_lower id_of (id_of x) (id_of y) xs (lt-le (id_of x) (id_of y) lt) rest.0), rest)

-- an id below all others doesn't stand twice
not_twice_below : {X : Type 0} (id_of : X → ℤ) (xs : List X) (n m : ℤ) → From id_of n xs → 2 ≤ times id_of xs m → n ≤ℤ m
not_twice_below id_of xs n m from twice = by_test (int_lt m n) refl
  where
    by_test : (b : Bool) → int_lt m n ≡ b → n ≤ℤ m
    by_test true e = let none = times-below id_of n m xs (below_is m n e) from in absurd (omega arith)
    by_test false e = not_below m n e

some_is : (a b : ℤ) → ◌≡◌ {A = Option ℤ} (Some a) (Some b) → a ≡ b
some_is a b e = cc

pub some_least : {X : Type 0} (id_of : X → ℤ) (xs : List X) (n : ℤ) → Climbs id_of xs → next_twice id_of xs ≡ Some n → IsLeastTwice id_of xs n
some_least id_of [] n h e = absurd cc
some_least id_of (x ∷ []) n h e = absurd cc
some_least id_of (x ∷ y ∷ xs) n h e = by_test (some_least id_of (y ∷ xs) n h.1) (int_eq (id_of x) (id_of y)) refl
  where
    by_test : (next_twice id_of (y ∷ xs) ≡ Some n → IsLeastTwice id_of (y ∷ xs) n) → (b : Bool) → int_eq (id_of x) (id_of y) ≡ b → IsLeastTwice id_of (x ∷ y ∷ xs) n
    by_test others true t =
        let here : id_of x ≡ n = some_is (id_of x) n (sym (next_by id_of x y xs true t) ∙ e) in
        let same : id_of x ≡ id_of y = (Decides-int_eq (id_of x) (id_of y)).0 t in
        let first = times-here id_of x (y ∷ xs) n here in
        let second = times-here id_of y xs n (sym same ∙ here) in
        record {
          twice = omega arith;
          least = λ m twice. not_twice_below id_of (x ∷ y ∷ xs) n m (subst (λ k. From id_of k (x ∷ y ∷ xs)) here (self-le (id_of x), h.0)) twice;
        }
    by_test others false t =
        let rest = others (sym (next_by id_of x y xs false t) ∙ e) in
        let lt = below_is (id_of x) (id_of y) (apart (id_of x) (id_of y) h.0.0 (not_from_Decides (int_eq (id_of x) (id_of y)) (Decides-int_eq (id_of x) (id_of y)) t)) in
        let count = times-cons id_of x (y ∷ xs) n in
        let enough = rest.twice in
        record { twice = omega arith; least = λ m twice. least_by m twice rest lt (int_eq (id_of x) m) refl }
      where
        least_by : (m : ℤ) → 2 ≤ times id_of (x ∷ y ∷ xs) m → IsLeastTwice id_of (y ∷ xs) n → id_of x <ℤ id_of y → (b : Bool) → int_eq (id_of x) m ≡ b → n ≤ℤ m
        least_by m twice rest lt true e =
            let same : id_of x ≡ m = (Decides-int_eq (id_of x) m).0 e in
            let here = times-here id_of x (y ∷ xs) m same in
            let none = times-below id_of (id_of y) m (y ∷ xs) (subst (λ k. k <ℤ id_of y) same lt) (self-le (id_of y), h.1.0) in
            absurd (omega arith)
        least_by m twice rest lt false e =
            rest.least m (subst (λ k. 2 ≤ k) (times-other id_of x (y ∷ xs) m (not_from_Decides (int_eq (id_of x) m) (Decides-int_eq (id_of x) m) e)) twice)

-- ---- the same objects in another order

pub times_same : {X : Type 0} (id_of : X → ℤ) (xs ys : List X) (n : ℤ) → IsPermutation xs ys → times id_of ys n ≡ times id_of xs n
times_same id_of xs ys n same = sum_by-IsPermutation (λ y. cond (int_eq (id_of y) n) 1 0) xs ys same

pub least_moved : {X : Type 0} (id_of : X → ℤ) (all list : List X) (n : ℤ) → IsPermutation all list → IsLeastTwice id_of list n → IsLeastTwice id_of all n
least_moved id_of all list n same least = record {
  twice = subst (λ k. 2 ≤ k) (times_same id_of all list n same) least.twice;
  least = λ m twice. least.least m (subst (λ k. 2 ≤ k) (sym (times_same id_of all list m same)) twice);
}

pub in_order_unlike : {X : Type 0} (id_of : X → ℤ) (all list : List X) → InOrder id_of all list → AreUnlike id_of all
in_order_unlike id_of all list order = λ n.
    subst (λ k. k ≤ 1) (times_same id_of all list n order.same) (times-rises id_of list n (rises_pairs id_of list order.rises))

-- ---- one answer

pub least_not_unlike : {X : Type 0} (id_of : X → ℤ) (all : List X) (n : ℤ) → IsLeastTwice id_of all n → AreUnlike id_of all → ⊥
least_not_unlike id_of all n least unlike = let one = unlike n in let two = least.twice in omega arith

pub least_one : {X : Type 0} (id_of : X → ℤ) (all : List X) (n m : ℤ) → IsLeastTwice id_of all n → IsLeastTwice id_of all m → n ≡ m
least_one id_of all n m a b = both (a.least m b.twice) (b.least n a.twice)
  where
    both : {x y : ℤ} → x ≤ℤ y → y ≤ℤ x → x ≡ y
    both h k = omega (arith, ints)
