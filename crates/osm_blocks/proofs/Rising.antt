-- Lists in order of id, by recursion.
use Rattle.std.proofs.Common.{◌≡◌, ℕ, zero, suc, ◌+◌, ◌<◌, ◌≤◌, cond, Bool, true, false, ℤ, ◌<ℤ◌, ◌≤ℤ◌, List, [], ◌∷◌, length, get_or, refl, ap, ◌∙◌, subst, arith, Decides}
use Rattle.std.specs.Prelude.{AllPairs}
use Rattle.std.specs.Ordering.{int_eq}
use Rattle.std.proofs.lemmas.Int.{ints}
use Rattle.std.proofs.lemmas.Bool.Decides.{Decides-int_eq, not_from_Decides}
use Rattle.std.proofs.lemmas.List.Sums.{sum_by-cons}
use Rattle.osm_blocks.specs.Order.{times}

-- ---- bounds from below

-- each id is above n
abbrev pub Above : {X : Type 0} → (X → ℤ) → ℤ → List X → Type 0
Above id_of n [] = Unit {0}
Above id_of n (x ∷ xs) = (n <ℤ id_of x) × Above id_of n xs

-- each id is n or above it
abbrev pub From : {X : Type 0} → (X → ℤ) → ℤ → List X → Type 0
From id_of n [] = Unit {0}
From id_of n (x ∷ xs) = (n ≤ℤ id_of x) × From id_of n xs

-- each id is below the next one
abbrev pub Rises : {X : Type 0} → (X → ℤ) → List X → Type 0
Rises id_of [] = Unit {0}
Rises id_of (x ∷ xs) = Above id_of (id_of x) xs × Rises id_of xs

-- never id is above the next one
abbrev pub Climbs : {X : Type 0} → (X → ℤ) → List X → Type 0
Climbs id_of [] = Unit {0}
Climbs id_of (x ∷ xs) = From id_of (id_of x) xs × Climbs id_of xs

through_lt : (a b c : ℤ) → a ≤ℤ b → b <ℤ c → a <ℤ c
through_lt a b c h k = omega (arith, ints)

through_le : (a b c : ℤ) → a ≤ℤ b → b ≤ℤ c → a ≤ℤ c
through_le a b c h k = omega (arith, ints)

pub above_lower : {X : Type 0} (id_of : X → ℤ) (m n : ℤ) (xs : List X) → m ≤ℤ n → Above id_of n xs → Above id_of m xs
above_lower id_of m n [] le h = tt
above_lower id_of m n (x ∷ xs) le h = (through_lt m n (id_of x) le h.0, above_lower id_of m n xs le h.1)

pub from_lower : {X : Type 0} (id_of : X → ℤ) (m n : ℤ) (xs : List X) → m ≤ℤ n → From id_of n xs → From id_of m xs
from_lower id_of m n [] le h = tt
from_lower id_of m n (x ∷ xs) le h = (through_le m n (id_of x) le h.0, from_lower id_of m n xs le h.1)

lt-le : (a b : ℤ) → a <ℤ b → a ≤ℤ b
lt-le a b h = omega (arith, ints)

pub above_from : {X : Type 0} (id_of : X → ℤ) (n : ℤ) (xs : List X) → Above id_of n xs → From id_of n xs
above_from id_of n [] h = tt
above_from id_of n (x ∷ xs) h = (lt-le n (id_of x) h.0, above_from id_of n xs h.1)

pub from_above : {X : Type 0} (id_of : X → ℤ) (m n : ℤ) (xs : List X) → m <ℤ n → From id_of n xs → Above id_of m xs
from_above id_of m n [] lt h = tt
from_above id_of m n (x ∷ xs) lt h = (joined_lt m n (id_of x) lt h.0, from_above id_of m n xs lt h.1)
  where
    joined_lt : (a b c : ℤ) → a <ℤ b → b ≤ℤ c → a <ℤ c
    joined_lt a b c h k = omega (arith, ints)

-- ---- how often an id stands

pub is_same : (a b : ℤ) → a ≡ b → int_eq a b ≡ true
is_same a b e = (Decides-int_eq a b).1 e

pub not_same : (b : Bool) (P : Type 0) → Decides b P → (P → ⊥) → b ≡ false
not_same true P d never = absurd (never (d.0 refl))
not_same false P d never = refl

pub differs : (a b : ℤ) → (a ≡ b → ⊥) → int_eq a b ≡ false
differs a b never = not_same (int_eq a b) (a ≡ b) (Decides-int_eq a b) never

pub times-cons : {X : Type 0} (id_of : X → ℤ) (x : X) (xs : List X) (n : ℤ) → times id_of (x ∷ xs) n ≡ cond (int_eq (id_of x) n) 1 0 + times id_of xs n
times-cons id_of x xs n = sum_by-cons (λ y. cond (int_eq (id_of y) n) 1 0) x xs

pub times-here : {X : Type 0} (id_of : X → ℤ) (x : X) (xs : List X) (n : ℤ) → id_of x ≡ n → times id_of (x ∷ xs) n ≡ 1 + times id_of xs n
times-here id_of x xs n e = times-cons id_of x xs n ∙ ap (λ b. cond {A = ℕ} b 1 0 + times id_of xs n) (is_same (id_of x) n e)

zero_more : (n : ℕ) → 0 + n ≡ n
zero_more n = omega arith

pub times-other : {X : Type 0} (id_of : X → ℤ) (x : X) (xs : List X) (n : ℤ) → (id_of x ≡ n → ⊥) → times id_of (x ∷ xs) n ≡ times id_of xs n
times-other id_of x xs n never =
    times-cons id_of x xs n ∙ ap (λ b. cond {A = ℕ} b 1 0 + times id_of xs n) (differs (id_of x) n never) ∙ zero_more (times id_of xs n)

lt-not : (a b : ℤ) → a <ℤ b → b ≡ a → ⊥
lt-not a b h e = omega (arith, ints, ap (λ x. x) e)

pub times-above : {X : Type 0} (id_of : X → ℤ) (n m : ℤ) (xs : List X) → m ≤ℤ n → Above id_of n xs → times id_of xs m ≡ 0
times-above id_of n m [] le h = refl
times-above id_of n m (x ∷ xs) le h =
    times-other id_of x xs m (lt-not m (id_of x) (through_lt m n (id_of x) le h.0)) ∙ times-above id_of n m xs le h.1

self-le : (a : ℤ) → a ≤ℤ a
self-le a = omega (arith, ints)

pub times-below : {X : Type 0} (id_of : X → ℤ) (n m : ℤ) (xs : List X) → m <ℤ n → From id_of n xs → times id_of xs m ≡ 0
times-below id_of n m xs lt h = times-above id_of m m xs (self-le m) (from_above id_of m n xs lt h)

-- ids that rise stand at most once
pub times-rises : {X : Type 0} (id_of : X → ℤ) (xs : List X) (n : ℤ) → Rises id_of xs → times id_of xs n ≤ 1
times-rises id_of [] n h = omega arith
times-rises id_of (x ∷ xs) n h = by_test (times-rises id_of xs n h.1) (int_eq (id_of x) n) refl
  where
    by_test : times id_of xs n ≤ 1 → (b : Bool) → int_eq (id_of x) n ≡ b → times id_of (x ∷ xs) n ≤ 1
    by_test rest true e =
        let same : id_of x ≡ n = (Decides-int_eq (id_of x) n).0 e in
        let none : times id_of xs n ≡ 0 = times-above id_of (id_of x) n xs (subst (λ m. m ≤ℤ id_of x) same (self-le (id_of x))) h.0 in
        let here = times-here id_of x xs n same in
        omega arith
    by_test rest false e =
        let here = times-other id_of x xs n (not_from_Decides (int_eq (id_of x) n) (Decides-int_eq (id_of x) n) e) in
        omega arith

-- ---- by index

pub pairs_rise : {X : Type 0} (id_of : X → ℤ) (xs : List X) → Rises id_of xs → AllPairs (λ a b. id_of a <ℤ id_of b) xs
pairs_rise id_of [] h = λ i j d lt within. absurd (omega arith)
pairs_rise id_of (x ∷ xs) h = at (pairs_rise id_of xs h.1)
  where
    above_at : (ys : List _) (n : ℤ) → Above id_of n ys → (j : ℕ) (d : _) → j < length ys → n <ℤ id_of (get_or ys j d)
    above_at [] n a j d within = absurd (omega arith)
    above_at (y ∷ ys) n a zero d within = a.0
    above_at (y ∷ ys) n a (suc j) d within = above_at ys n a.1 j d (omega arith)

    at : AllPairs (λ a b. id_of a <ℤ id_of b) xs → AllPairs (λ a b. id_of a <ℤ id_of b) (x ∷ xs)
    at rest i zero d lt within = absurd (omega arith)
    at rest zero (suc j) d lt within = above_at xs (id_of x) h.0 j d (omega arith)
    at rest (suc i) (suc j) d lt within = rest i j d (omega arith) (omega arith)

pub rises_pairs : {X : Type 0} (id_of : X → ℤ) (xs : List X) → AllPairs (λ a b. id_of a <ℤ id_of b) xs → Rises id_of xs
rises_pairs id_of [] h = tt
rises_pairs id_of (x ∷ xs) h = (above xs (λ j d within. h 0 (suc j) d (omega arith) (omega arith)), rises_pairs id_of xs (λ i j d lt within. h (suc i) (suc j) d (omega arith) (omega arith)))
  where
    above : (ys : List _) → ((j : ℕ) (d : _) → j < length ys → id_of x <ℤ id_of (get_or ys j d)) → Above id_of (id_of x) ys
    above [] f = tt
    above (y ∷ ys) f = (f 0 y (omega arith), above ys (λ j d within. f (suc j) d (omega arith)))
