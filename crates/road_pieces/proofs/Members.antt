-- What stands in a list, by recursion. Nothing here is about roads.
use Rattle.std.proofs.Common.{◌≡◌, ℕ, zero, suc, ◌+◌, ◌<◌, refl, sym, ◌∙◌, ap, subst, List, [], ◌∷◌, ◌++◌, length, map, get_or, inl, inr, arith}
use Rattle.std.specs.Prelude.{◌⊎◌}
use Rattle.std.specs.List.{Contains, flat_map, enumerate_from}
use Rattle.road_pieces.specs.Among.{Among}

abbrev pub IsIn : {E : Type 0} → List E → E → Type 0
IsIn [] e = ⊥
IsIn (f ∷ fs) e = (f ≡ e) ⊎ IsIn fs e

pub in_from_among : {E : Type 0} (es : List E) (e : E) → Among es e → IsIn es e
in_from_among [] e h = h
in_from_among (f ∷ es) e (inl is) = inl is
in_from_among (f ∷ es) e (inr there) = inr (in_from_among es e there)

pub among_from_in : {E : Type 0} (es : List E) (e : E) → IsIn es e → Among es e
among_from_in [] e h = h
among_from_in (f ∷ es) e (inl is) = inl is
among_from_in (f ∷ es) e (inr there) = inr (among_from_in es e there)

pub in_at : {E : Type 0} (xs : List E) (k : ℕ) (d e : E) → k < length xs → get_or xs k d ≡ e → IsIn xs e
in_at [] k d e h is = absurd (omega arith)
in_at (x ∷ xs) zero d e h is = inl is
in_at (x ∷ xs) (suc k) d e h is = inr (in_at xs k d e (omega arith) is)

pub at_in : {E : Type 0} (xs : List E) (e : E) → IsIn xs e → (k : ℕ) × ((k < length xs) × ((d : E) → get_or xs k d ≡ e))
at_in [] e h = absurd h
at_in (x ∷ xs) e (inl is) = (0, (omega arith, λ d. is))
at_in (x ∷ xs) e (inr later) =
    let (k, (h, is)) = at_in xs e later in
    (suc k, (omega arith, is))

pub in_from_contains : {E : Type 0} (xs : List E) (e : E) → Contains xs e → IsIn xs e
in_from_contains xs e (k, h, is) = in_at xs k e e h is

pub contains_from_in : {E : Type 0} (xs : List E) (e : E) → IsIn xs e → Contains xs e
contains_from_in xs e h =
    let (k, (inside, is)) = at_in xs e h in
    (k, inside, is e)

pub in_left : {E : Type 0} (xs ys : List E) (e : E) → IsIn xs e → IsIn (xs ++ ys) e
in_left [] ys e h = absurd h
in_left (x ∷ xs) ys e (inl is) = inl is
in_left (x ∷ xs) ys e (inr later) = inr (in_left xs ys e later)

pub in_right : {E : Type 0} (xs ys : List E) (e : E) → IsIn ys e → IsIn (xs ++ ys) e
in_right [] ys e h = h
in_right (x ∷ xs) ys e h = inr (in_right xs ys e h)

pub of_append : {E : Type 0} (xs ys : List E) (e : E) → IsIn (xs ++ ys) e → IsIn xs e ⊎ IsIn ys e
of_append [] ys e h = inr h
of_append (x ∷ xs) ys e (inl is) = inl (inl is)
of_append (x ∷ xs) ys e (inr later) =
    elim (of_append xs ys e later) [ inl here ↦ inl (inr here) | inr there ↦ inr there ]

pub in_flat : {A B : Type 0} (f : A → List B) (xs : List A) (x : A) (b : B) → IsIn xs x → IsIn (f x) b → IsIn (flat_map f xs) b
in_flat f [] x b h k = absurd h
in_flat f (y ∷ xs) x b (inl is) k =
    in_left (f y) (flat_map f xs) b (subst (λ z. IsIn (f z) b) (sym is) k)
in_flat f (y ∷ xs) x b (inr later) k = in_right (f y) (flat_map f xs) b (in_flat f xs x b later k)

pub of_flat : {A B : Type 0} (f : A → List B) (xs : List A) (b : B) → IsIn (flat_map f xs) b → (x : A) × (IsIn xs x × IsIn (f x) b)
of_flat f [] b h = absurd h
of_flat f (y ∷ xs) b h =
    elim (of_append (f y) (flat_map f xs) b h) [
      | inl here ↦ (y, (inl refl, here))
      | inr there ↦ let (x, (is, k)) = of_flat f xs b there in (x, (inr is, k))
    ]

pub in_map : {A B : Type 0} (f : A → B) (xs : List A) (x : A) → IsIn xs x → IsIn (map f xs) (f x)
in_map f [] x h = absurd h
in_map f (y ∷ xs) x (inl is) = inl (ap f is)
in_map f (y ∷ xs) x (inr later) = inr (in_map f xs x later)

pub of_map : {A B : Type 0} (f : A → B) (xs : List A) (b : B) → IsIn (map f xs) b → (x : A) × (IsIn xs x × (f x ≡ b))
of_map f [] b h = absurd h
of_map f (y ∷ xs) b (inl is) = (y, (inl refl, is))
of_map f (y ∷ xs) b (inr later) =
    let (x, (is, e)) = of_map f xs b later in
    (x, (inr is, e))

-- in a numbered list an element stands with its place
pub in_numbered : {A : Type 0} (n : ℕ) (xs : List A) (k : ℕ) (d : A) → k < length xs → IsIn (enumerate_from n xs) (n + k, get_or xs k d)
in_numbered n [] k d h = absurd (omega arith)
in_numbered n (x ∷ xs) zero d h = inl (ap (λ m. (m, x)) {x = n} {y = n + 0} (omega arith))
in_numbered n (x ∷ xs) (suc k) d h =
    inr (subst (λ m. IsIn (enumerate_from (n + 1) xs) (m, get_or xs k d)) {x = n + 1 + k} {y = n + suc k} (omega arith) (in_numbered (n + 1) xs k d (omega arith)))

pub record IsAt {A : Type 0} (n : ℕ) (xs : List A) (number : ℕ) (x : A) : Type 0 where
  pub place : ℕ
  pub number_is : number ≡ n + place
  pub inside : place < length xs
  pub is : (d : A) → get_or xs place d ≡ x

pub of_numbered : {A : Type 0} (n : ℕ) (xs : List A) (e : ℕ × A) → IsIn (enumerate_from n xs) e → IsAt n xs e.0 e.1
of_numbered n [] e h = absurd h
of_numbered n (x ∷ xs) e (inl is) =
    record { place = 0; number_is = sym (ap (λ p. p.0) is) ∙ omega arith; inside = omega arith; is = λ d. ap (λ p. p.1) is }
of_numbered n (x ∷ xs) e (inr later) =
    let at : IsAt (n + 1) xs e.0 e.1 = of_numbered (n + 1) xs e later in
    record { place = suc at.place; number_is = at.number_is ∙ omega arith; inside = omega (arith, at.inside); is = at.is }
