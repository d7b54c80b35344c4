-- sums over the views of a table's seats, and reads of lists after a write
use Rattle.std.proofs.Common.{◌≡◌, ℕ, zero, suc, ◌+◌, ◌<◌, ◌≤◌, ◌≢◌, List, [], ◌∷◌, ◌++◌, length, set, refl, ap, sym, ◌∙◌, subst, ⊎_elim, arith}
use Rattle.std.proofs.Math.ListN.{get_elem?}
use mathlib.Core.Option.{some, some-injective, some-ne-none}
use Rattle.atomic_table.proofs.Lists.{at_set}
use Rattle.tile_table.specs.Counts.{times_in, pair_times, total}

pub times-append : (x : ℕ) (xs ys : List ℕ) → times_in x (xs ++ ys) ≡ times_in x xs + times_in x ys
times-append x [] ys = omega arith
times-append x (y ∷ xs) ys = omega (arith, times-append x xs ys)

pub pairs-append : (a b : ℕ) (xs ys : List (ℕ × ℕ)) → pair_times a b (xs ++ ys) ≡ pair_times a b xs + pair_times a b ys
pairs-append a b [] ys = omega arith
pairs-append a b (p ∷ xs) ys = omega (arith, pairs-append a b xs ys)

module _ {V : Type 0} where
  pub total-append : (f : V → ℕ) (xs ys : List V) → total f (xs ++ ys) ≡ total f xs + total f ys
  total-append f [] ys = omega arith
  total-append f (x ∷ xs) ys = omega (arith, total-append f xs ys)

  -- one view changes
  pub total-set : (f : V → ℕ) (l : List V) (k : ℕ) (v w : V) → get_elem? l k ≡ some v → total f (set l k w) + f v ≡ total f l + f w
  total-set f [] k v w at = absurd (some-ne-none v (sym at))
  total-set f (x ∷ xs) zero v w at = let e : f x ≡ f v = ap f (some-injective x v at) in omega arith
  total-set f (x ∷ xs) (suc k) v w at = omega (arith, total-set f xs k v w at)

  -- one view changes, and f of it doesn't
  pub total-same : (f : V → ℕ) (l : List V) (k : ℕ) (v w : V) → get_elem? l k ≡ some v → f w ≡ f v → total f (set l k w) ≡ total f l
  total-same f l k v w at e = omega (arith, total-set f l k v w at, e)

  pub total-has : (f : V → ℕ) (l : List V) (k : ℕ) (v : V) → get_elem? l k ≡ some v → f v ≤ total f l
  total-has f [] k v at = absurd (some-ne-none v (sym at))
  total-has f (x ∷ xs) zero v at = let e : f x ≡ f v = ap f (some-injective x v at) in omega arith
  total-has f (x ∷ xs) (suc k) v at = omega (arith, total-has f xs k v at)

  pub total-two : (f : V → ℕ) (l : List V) (k j : ℕ) (v w : V) → get_elem? l k ≡ some v → get_elem? l j ≡ some w → j ≢ k → f v + f w ≤ total f l
  total-two f [] k j v w at bt ne = absurd (some-ne-none v (sym at))
  total-two f (x ∷ xs) zero zero v w at bt ne = absurd (ne refl)
  total-two f (x ∷ xs) zero (suc j) v w at bt ne = let e : f x ≡ f v = ap f (some-injective x v at) in omega (arith, total-has f xs j w bt)
  total-two f (x ∷ xs) (suc k) zero v w at bt ne = let e : f x ≡ f w = ap f (some-injective x w bt) in omega (arith, total-has f xs k v at)
  total-two f (x ∷ xs) (suc k) (suc j) v w at bt ne = omega (arith, total-two f xs k j v w at bt (λ e. ne (ap suc e)))

  -- some view has a part in a sum that isn't 0
  some_of : (f : V → ℕ) (x : V) (xs : List V) (n : ℕ) → f x ≡ n → 0 < n + total f xs
      → (0 < total f xs → (k : ℕ) × (v : V) × (get_elem? xs k ≡ some v) × (0 < f v))
      → (k : ℕ) × (v : V) × (get_elem? (x ∷ xs) k ≡ some v) × (0 < f v)
  some_of f x xs zero e h rest = let r = rest (omega arith) in (suc r.0, r.1, r.2, r.3)
  some_of f x xs (suc n) e h rest = (zero, x, refl, omega (arith, e))

  pub total-some : (f : V → ℕ) (l : List V) → 0 < total f l → (k : ℕ) × (v : V) × (get_elem? l k ≡ some v) × (0 < f v)
  total-some f [] h = absurd (omega arith)
  total-some f (x ∷ xs) h = some_of f x xs (f x) refl h (total-some f xs)

  -- two views at one place are one
  pub one-view : (l : List V) (k : ℕ) (v w : V) → get_elem? l k ≡ some v → get_elem? l k ≡ some w → v ≡ w
  one-view l k v w at bt = some-injective v w (sym at ∙ bt)

  pub has-length : (l : List V) (k : ℕ) → k < length l → (v : V) × (get_elem? l k ≡ some v)
  has-length [] k h = absurd (omega arith)
  has-length (x ∷ xs) zero h = (x, refl)
  has-length (x ∷ xs) (suc k) h = has-length xs k (omega arith)

  -- a fact of each view, after one has changed
  pub each-set : (P : ℕ → V → Type 0) (l : List V) (k : ℕ) (w : V) → P k w → ((j : ℕ) (v : V) → get_elem? l j ≡ some v → j ≢ k → P j v)
      → (j : ℕ) (v : V) → get_elem? (set l k w) j ≡ some v → P j v
  each-set P l k w here others j v at =
      ⊎_elim
      (λ t. subst (λ n. P n v) (sym t.0) (subst (λ u. P k u) t.1 here))
      (λ t. others j v t.1 t.0)
      (at_set l k j w v at)
