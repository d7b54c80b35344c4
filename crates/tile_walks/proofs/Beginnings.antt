-- Lists of edges, and the edges of items.
use Rattle.std.proofs.Common.{◌≡◌, ℕ, zero, suc, ◌+◌, ◌<◌, ◌≤◌, List, [], ◌∷◌, length, take, ◌-◌, drop, get_or, refl, sym, ap, subst, arith, inl, inr}
use Rattle.std.specs.Prelude.{◌↔◌}
use Rattle.tile_walks.specs.declared.items.WalkItem.{WalkItem}
use Rattle.tile_walks.specs.declared.items.WalkItem.TheVariants as items
use Rattle.tile_walks.specs.Forbidden.{Begin, BeginSomewhere}

pub drop_at : {A : Type 0} (xs : List A) (i n : ℕ) (d : A) → i + 1 ≡ n → i < length xs → drop i xs ≡ get_or xs i d ∷ drop n xs
drop_at [] i n d e h = absurd (omega (arith, h))
drop_at (x ∷ xs) zero zero d e h = absurd (omega (arith, e))
drop_at (x ∷ xs) zero (suc n) d e h = ap (λ m. x ∷ drop m xs) {x = 0} {y = n} (omega (arith, e))
drop_at (x ∷ xs) (suc i) zero d e h = absurd (omega (arith, e))
drop_at (x ∷ xs) (suc i) (suc n) d e h = drop_at xs i n d (omega (arith, e)) (omega (arith, h))

pub drop_past : {A : Type 0} (xs : List A) (i : ℕ) → length xs ≤ i → drop i xs ≡ []
drop_past [] zero h = refl
drop_past [] (suc i) h = refl
drop_past (x ∷ xs) zero h = absurd (omega (arith, h))
drop_past (x ∷ xs) (suc i) h = drop_past xs i (omega (arith, h))

-- the items begin with the next edge
pub over : (edges : List ℕ) (k id : ℕ) (rest : List WalkItem) → k < length edges → get_or edges k id ≡ id → Begin (drop k edges) (items.Edge id ∷ rest) ↔ Begin (drop (k + 1) edges) rest
over edges k id rest inside is =
    let e : drop k edges ≡ get_or edges k id ∷ drop (k + 1) edges = drop_at edges k (k + 1) id refl inside in (
      λ h. (subst (λ l. Begin l (items.Edge id ∷ rest)) e h).1,
      λ h. subst (λ l. Begin l (items.Edge id ∷ rest)) (sym e) (is, h),
    )

pub not_over : (edges : List ℕ) (k id : ℕ) (rest : List WalkItem) → k < length edges → (get_or edges k id ≡ id → ⊥) → Begin (drop k edges) (items.Edge id ∷ rest) → ⊥
not_over edges k id rest inside other h =
    other (subst (λ l. Begin l (items.Edge id ∷ rest)) (drop_at edges k (k + 1) id refl inside) h).0

pub through : (edges : List ℕ) (k f place : ℕ) (rest : List WalkItem) → k < length edges → Begin (drop k edges) (items.Transition f place ∷ rest) ↔ Begin (drop k edges) rest
through edges k f place rest inside =
    let e : drop k edges ≡ get_or edges k 0 ∷ drop (k + 1) edges = drop_at edges k (k + 1) 0 refl inside in (
      λ h. subst (λ l. Begin l rest) (sym e) (subst (λ l. Begin l (items.Transition f place ∷ rest)) e h),
      λ h. subst (λ l. Begin l (items.Transition f place ∷ rest)) (sym e) (subst (λ l. Begin l rest) e h),
    )

-- without items only the empty list begins
pub at_end : (edges : List ℕ) (k : ℕ) → Begin (drop k edges) [] → length edges ≤ k
at_end [] k h = omega arith
at_end (e ∷ edges) zero h = absurd h
at_end (e ∷ edges) (suc k) h = let r = at_end edges k h in omega (arith, r)

pub end_of : (edges : List ℕ) (named : List WalkItem) (k : ℕ) → length edges ≤ k → Begin (drop k edges) named
end_of edges named k h = subst (λ l. Begin l named) (sym (drop_past edges k h)) (none named)
  where
    none : (named : List WalkItem) → Begin [] named
    none [] = tt
    none (i ∷ named) = tt

-- what doesn't begin here begins later, if anywhere
pub onward : (edges : List ℕ) (named : List WalkItem) (i : ℕ) → i < length named → (Begin edges (drop i named) → ⊥) → (BeginSomewhere edges named ↔ BeginSomewhere edges (drop i named)) → BeginSomewhere edges named ↔ BeginSomewhere edges (drop (i + 1) named)
onward edges [] i inside none both = absurd (omega (arith, inside))
onward edges (first ∷ more) i inside none both =
    let named : List WalkItem = first ∷ more in
    let e : drop i named ≡ get_or named i first ∷ drop (i + 1) named = drop_at named i (i + 1) first refl inside in (
      λ h. elim (subst (BeginSomewhere edges) e (both.0 h)) [ inl here ↦ absurd (none (subst (Begin edges) (sym e) here)) | inr later ↦ later ],
      λ h. both.1 (subst (BeginSomewhere edges) (sym e) (inr h)),
    )

take_all : {A : Type 0} (xs : List A) (n : ℕ) → length xs ≤ n → take n xs ≡ xs
take_all [] zero h = refl
take_all [] (suc n) h = refl
take_all (x ∷ xs) zero h = absurd (omega (arith, h))
take_all (x ∷ xs) (suc n) h = ap (λ l. x ∷ l) (take_all xs n (omega (arith, h)))

long_drop : {A : Type 0} (xs : List A) (i : ℕ) → length (drop i xs) ≤ length xs - i
long_drop [] zero = omega arith
long_drop [] (suc i) = omega arith
long_drop (x ∷ xs) zero = omega arith
long_drop (x ∷ xs) (suc i) = let h = long_drop xs i in omega (arith, h)

-- the part from an item on
pub rest_is : {A : Type 0} (xs : List A) (i : ℕ) → take (length xs - i) (drop i xs) ≡ drop i xs
rest_is xs i = take_all (drop i xs) (length xs - i) (long_drop xs i)

pub nowhere : (edges : List ℕ) (named : List WalkItem) (i : ℕ) → length named ≤ i → (BeginSomewhere edges named ↔ BeginSomewhere edges (drop i named)) → BeginSomewhere edges named ↔ (length edges ≡ 0)
nowhere edges named i past both =
    let e = drop_past named i past in
    (λ h. empty edges (subst (BeginSomewhere edges) e (both.0 h)), λ z. both.1 (subst (BeginSomewhere edges) (sym e) (none edges z)))
  where
    empty : (edges : List ℕ) → Begin edges [] → length edges ≡ 0
    empty [] h = refl
    empty (e ∷ edges) h = absurd h

    none : (edges : List ℕ) → length edges ≡ 0 → Begin edges []
    none [] z = tt
    none (e ∷ edges) z = absurd (omega (arith, z))

pub begun : (edges : List ℕ) (named : List WalkItem) (k i : ℕ) → length named ≤ i → (Begin edges named ↔ Begin (drop k edges) (drop i named)) → Begin edges named ↔ (length edges ≤ k)
begun edges named k i past both =
    let e = drop_past named i past in
    (λ h. at_end edges k (subst (Begin (drop k edges)) e (both.0 h)), λ z. both.1 (end_of edges (drop i named) k z))
