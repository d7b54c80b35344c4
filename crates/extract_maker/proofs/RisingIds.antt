-- Lists of objects whose ids rise.
use Rattle.std.proofs.Common.{◌≡◌, ℕ, zero, suc, ◌+◌, ◌*◌, ◌<◌, ◌≤◌, ℤ, pos, ◌<ℤ◌, ◌≤ℤ◌, List, [], ◌∷◌, ◌++◌, length, map, get_or, refl, sym, ap, ◌∙◌, subst, arith}
use Rattle.std.specs.List.{range_with_len, flat_map, AllPairs}
use Rattle.std.proofs.lemmas.Int.{ints}

-- the ids rise, from the first number on and up to the second
abbrev pub Rises : {X : Type 0} → (X → ℤ) → ℕ → ℕ → List X → Type 0
Rises id_of low high [] = low ≤ high
Rises id_of low high (x ∷ xs) = (n : ℕ) × (id_of x ≡ pos n) × (low ≤ n) × Rises id_of (n + 1) high xs

pub rises_lower : {X : Type 0} (id_of : X → ℤ) (lower low high : ℕ) (xs : List X) → lower ≤ low → Rises id_of low high xs → Rises id_of lower high xs
rises_lower id_of lower low high [] below rises = omega arith
rises_lower id_of lower low high (x ∷ xs) below rises = let h = rises.2 in (rises.0, rises.1, omega arith, rises.3)

pub rises_append : {X : Type 0} (id_of : X → ℤ) (low mid high : ℕ) (xs ys : List X) → Rises id_of low mid xs → Rises id_of mid high ys → Rises id_of low high (xs ++ ys)
rises_append id_of low mid high [] ys one other = rises_lower id_of low mid high ys one other
rises_append id_of low mid high (x ∷ xs) ys one other = (one.0, one.1, one.2, rises_append id_of (one.0 + 1) mid high xs ys one.3 other)

-- each is at or above the first number
above : {X : Type 0} (id_of : X → ℤ) (low high : ℕ) (xs : List X) (j : ℕ) (d : X) → Rises id_of low high xs → j < length xs → pos low ≤ℤ id_of (get_or xs j d)
above id_of low high [] j d rises within = absurd (omega arith)
above id_of low high (x ∷ xs) zero d rises within =
    let h = rises.2 in
    let e = rises.1 in
    rw e (omega (arith, ints))
above id_of low high (x ∷ xs) (suc j) d rises within =
    let h = rises.2 in
    let inside : j < length xs = omega arith in
    let rest = above id_of (rises.0 + 1) high xs j d rises.3 inside in
    omega (arith, ints, rest)

pub all_pairs : {X : Type 0} (id_of : X → ℤ) (low high : ℕ) (xs : List X) → Rises id_of low high xs → AllPairs (λ a b. id_of a <ℤ id_of b) xs
all_pairs id_of low high [] rises i j d less within = absurd (omega arith)
all_pairs id_of low high (x ∷ xs) rises zero zero d less within = absurd (omega arith)
all_pairs id_of low high (x ∷ xs) rises zero (suc j) d less within =
    let inside : j < length xs = omega arith in
    let rest = above id_of (rises.0 + 1) high xs j d rises.3 inside in
    let e = rises.1 in
    rw e (omega (arith, ints, rest))
all_pairs id_of low high (x ∷ xs) rises (suc i) zero d less within = absurd (omega arith)
all_pairs id_of low high (x ∷ xs) rises (suc i) (suc j) d less within = all_pairs id_of (rises.0 + 1) high xs rises.3 i j d (omega arith) (omega arith)

-- objects over counted numbers, whose ids rise with the number
pub rises_counted : {X : Type 0} (id_of : X → ℤ) (f : ℕ → X) (base a n : ℕ) → ((i : ℕ) → id_of (f i) ≡ pos (base + i)) → Rises id_of (base + a) (base + (a + n)) (map f (range_with_len a n))
rises_counted id_of f base a zero each = omega arith
rises_counted id_of f base a (suc n) each =
    let same : base + (a + 1) ≡ base + a + 1 = omega arith in
    let last : base + (a + 1 + n) ≡ base + (a + suc n) = omega arith in (
      base + a,
      each a,
      omega arith,
      subst (λ (k : ℕ). Rises id_of (base + a + 1) k (map f (range_with_len (a + 1) n))) last
          (subst (λ (k : ℕ). Rises id_of k (base + (a + 1 + n)) (map f (range_with_len (a + 1) n))) same (rises_counted id_of f base (a + 1) n each)),
    )

-- the same of lists over counted numbers
pub rises_joined : {X : Type 0} (id_of : X → ℤ) (f : ℕ → List X) (bound : ℕ → ℕ) (a n : ℕ)
    → ((i : ℕ) → Rises id_of (bound i) (bound (i + 1)) (f i)) → Rises id_of (bound a) (bound (a + n)) (flat_map f (range_with_len a n))
rises_joined id_of f bound a zero each = let e : a ≡ a + 0 = omega arith in subst (λ (k : ℕ). bound a ≤ bound k) e (omega arith)
rises_joined id_of f bound a (suc n) each =
    let e : a + 1 + n ≡ a + suc n = omega arith in
    subst (λ (k : ℕ). Rises id_of (bound a) (bound k) (flat_map f (range_with_len a (suc n)))) e
    (rises_append id_of (bound a) (bound (a + 1)) (bound (a + 1 + n)) (f a) (flat_map f (range_with_len (a + 1) n)) (each a) (rises_joined id_of f bound (a + 1) n each))
