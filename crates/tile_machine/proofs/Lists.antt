-- lists that are written at one place, read by `get` and counted
use Rattle.std.proofs.Common.{◌≡◌, ◌≢◌, ℕ, zero, suc, ◌+◌, ◌<◌, ◌≤◌, Bool, true, cond, Some, List, [], ◌∷◌, length, refl, ap, ◌∙◌, subst, arith}
use Rattle.std.specs.Prelude.{slice_get, slice_set, count_by}
use Rattle.std.proofs.lemmas.Option.{slice_get_within, get_or_from_slice_get, none-some, same_Some}
use Rattle.std.proofs.lemmas.List.Sums.{sum_by-set, sum_by-cons}

-- what was written is read
pub get-set_same : {A : Type 0} (xs : List A) (i : ℕ) (y : A) → i < length xs → slice_get (slice_set xs i y) i ≡ Some y
get-set_same [] i y h = absurd (omega arith)
get-set_same (x ∷ xs) zero y h = refl
get-set_same (x ∷ xs) (suc i) y h = get-set_same xs i y (omega arith)

-- elsewhere nothing changed
pub get-set_other : {A : Type 0} (xs : List A) (i j : ℕ) (y : A) → j ≢ i → slice_get (slice_set xs i y) j ≡ slice_get xs j
get-set_other [] i j y h = refl
get-set_other (x ∷ xs) zero zero y h = absurd (h refl)
get-set_other (x ∷ xs) zero (suc j) y h = refl
get-set_other (x ∷ xs) (suc i) zero y h = refl
get-set_other (x ∷ xs) (suc i) (suc j) y h = get-set_other xs i j y (λ e. h (ap suc e))

-- 1 where the test holds, else 0
abbrev pub bit : Bool → ℕ
bit b = cond b 1 0

-- a write changes a count by the element that goes and the one that comes
pub count-set : {A : Type 0} (p : A → Bool) (xs : List A) (i : ℕ) (x y : A) → slice_get xs i ≡ Some x
    → count_by p (slice_set xs i y) + bit (p x) ≡ count_by p xs + bit (p y)
count-set p xs i x y at =
    subst (λ v. count_by p (slice_set xs i y) + bit (p v) ≡ count_by p xs + bit (p y))
    (get_or_from_slice_get xs i x x at)
    (sum_by-set (λ v. cond (p v) 1 0) xs i y x (slice_get_within xs i x at))

-- an element that passes the test is counted
pub one_counted : {A : Type 0} (p : A → Bool) (xs : List A) (i : ℕ) (x : A) → slice_get xs i ≡ Some x → p x ≡ true → 1 ≤ count_by p xs
one_counted p [] i x at holds = absurd (none-some x at)
one_counted p (y ∷ xs) zero x at holds =
    let here : p y ≡ true = ap p (same_Some y x at) ∙ holds in
    let one : bit (p y) ≡ 1 = ap bit here in
    omega (arith, sum_by-cons (λ v. cond (p v) 1 0) y xs)
one_counted p (y ∷ xs) (suc i) x at holds =
    omega (arith, one_counted p xs i x at holds, sum_by-cons (λ v. cond (p v) 1 0) y xs)
