-- Three ways to say that x stands at place j of a list, and the way from one to another, for the proofs of a phase: `At xs j x`,
-- which the contracts of parts and phases say; `get_or xs j d`, which an index in code gives; and a place of `map f xs`
use Rattle.std.proofs.lemmas.Grind.{common_steps}
use Rattle.std.proofs.Common.{◌≡◌, ℕ, zero, suc, ◌+◌, ◌<◌, sum, take, List, [], ◌∷◌, length, map, get_or, refl, sym, ap, subst, arith}
use mathlib.Core.Option.{some}
use Rattle.tile_machine.specs.At.{At}

-- an element that was read stands where it was read
pub at_read : {A : Type 0} (xs : List A) (j : ℕ) (d : A) → j < length xs → At xs j (get_or xs j d)
at_read [] j d h = absurd (omega arith)
at_read (x ∷ xs) zero d h = refl
at_read (x ∷ xs) (suc j) d h = at_read xs j d (omega arith)

pub some_same : {A : Type 0} (x y : A) → some x ≡ some y → x ≡ y
some_same x y h = cc

-- and so does its image in the list of images
pub at-map : {A B : Type 0} (f : A → B) (xs : List A) (j : ℕ) (x : A) → At xs j x → At (map f xs) j (f x)
at-map f [] j x h = absurd (cc h)
at-map f (y ∷ xs) zero x h = ap some (ap f (some_same y x h))
at-map f (y ∷ xs) (suc j) x h = at-map f xs j x h

-- the part of a tile that was read is that of its place
pub part_read : {A B : Type 0} (f : A → B) (xs : List A) (j : ℕ) (d : A) (p : B) (ps : List B) → j < length xs → p ≡ f (get_or xs j d) → ps ≡ map f xs → At ps j p
part_read f xs j d p ps inside part shown =
    subst (λ qs. At qs j p) (sym shown) (subst (λ q. At (map f xs) j q) (sym part) (at-map f xs j (get_or xs j d) (at_read xs j d inside)))

-- the element that stands at a place is read there
pub read_at : {A : Type 0} (xs : List A) (j : ℕ) (x : A) → At xs j x → (j < length xs) × (get_or xs j x ≡ x)
read_at [] j x h = absurd (cc h)
read_at (y ∷ xs) zero x h = (omega arith, some_same y x h)
read_at (y ∷ xs) (suc j) x h = let rest = read_at xs j x h in (omega (arith, rest.0), rest.1)

-- what stands at a place is read there, whatever stands for a place that isn't there
pub at_get : {A : Type 0} (xs : List A) (j : ℕ) (x d : A) → At xs j x → get_or xs j d ≡ x
at_get [] j x d h = absurd (cc h)
at_get (y ∷ xs) zero x d h = some_same y x h
at_get (y ∷ xs) (suc j) x d h = at_get xs j x d h

-- the sum of a list's beginning, with the element that stands next
pub sum_more : (xs : List ℕ) (j x : ℕ) → At xs j x → sum (take (j + 1) xs) ≡ sum (take j xs) + x
sum_more xs j x h = let read = read_at xs j x h in grind (arith, common_steps, read.0, read.1)
