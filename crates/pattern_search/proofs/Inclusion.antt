-- What stands in a list; lists that rise.
use Rattle.std.proofs.Common.{◌≡◌, refl, sym, ◌∙◌, ap, subst, ℕ, zero, suc, ◌<◌, ◌≤◌, ◌+◌, Bool, true, false, cond, List, [], ◌∷◌, ◌++◌, inl, inr, arith}
use Rattle.std.specs.Prelude.{◌⊎◌, map, filter, nat_lt}
use Rattle.std.proofs.lemmas.Bool.{ltb-true, ltb-false}
use Rattle.std.specs.List.{flat_map, range_with_len}
use Rattle.pattern_search.specs.Words.{Includes, Rising}

pub among_left : {E : Type 0} (xs ys : List E) (e : E) → Includes xs e → Includes (xs ++ ys) e
among_left [] ys e h = absurd h
among_left (x ∷ xs) ys e (inl is) = inl is
among_left (x ∷ xs) ys e (inr h) = inr (among_left xs ys e h)

pub among_right : {E : Type 0} (xs ys : List E) (e : E) → Includes ys e → Includes (xs ++ ys) e
among_right [] ys e h = h
among_right (x ∷ xs) ys e h = inr (among_right xs ys e h)

pub among_either : {E : Type 0} (xs ys : List E) (e : E) → Includes (xs ++ ys) e → Includes xs e ⊎ Includes ys e
among_either [] ys e h = inr h
among_either (x ∷ xs) ys e (inl is) = inl (inl is)
among_either (x ∷ xs) ys e (inr h) = elim (among_either xs ys e h) [
  | inl k ↦ inl (inr k)
  | inr k ↦ inr k
]

pub among_flat : {X E : Type 0} (f : X → List E) (xs : List X) (x : X) (e : E) → Includes xs x → Includes (f x) e → Includes (flat_map f xs) e
among_flat f [] x e there h = absurd there
among_flat f (y ∷ ys) x e (inl is) h = among_left (f y) (flat_map f ys) e (subst (λ z. Includes (f z) e) (sym is) h)
among_flat f (y ∷ ys) x e (inr there) h = among_right (f y) (flat_map f ys) e (among_flat f ys x e there h)

pub among_unflat : {X E : Type 0} (f : X → List E) (xs : List X) (e : E) → Includes (flat_map f xs) e → (x : X) × (Includes xs x × Includes (f x) e)
among_unflat f [] e h = absurd h
among_unflat f (y ∷ ys) e h = elim (among_either (f y) (flat_map f ys) e h) [
  | inl k ↦ (y, (inl refl, k))
  | inr k ↦ (let found = among_unflat f ys e k in (found.0, (inr found.1.0, found.1.1)))
]

pub among_map : {X E : Type 0} (f : X → E) (xs : List X) (x : X) → Includes xs x → Includes (map f xs) (f x)
among_map f [] x h = absurd h
among_map f (y ∷ ys) x (inl is) = inl (ap f is)
among_map f (y ∷ ys) x (inr h) = inr (among_map f ys x h)

pub among_unmap : {X E : Type 0} (f : X → E) (xs : List X) (e : E) → Includes (map f xs) e → (x : X) × (Includes xs x × (f x ≡ e))
among_unmap f [] e h = absurd h
among_unmap f (y ∷ ys) e (inl is) = (y, (inl refl, is))
among_unmap f (y ∷ ys) e (inr h) = let found = among_unmap f ys e h in (found.0, (inr found.1.0, found.1.1))

pub among_filter : {E : Type 0} (test : E → Bool) (xs : List E) (e : E) → Includes xs e → test e ≡ true → Includes (filter test xs) e
among_filter test [] e h t = absurd h
among_filter test (x ∷ xs) e (inl is) t = subst (λ b. Includes (cond b (x ∷ filter test xs) (filter test xs)) e) (sym (ap test is ∙ t)) (inl is)
among_filter test (x ∷ xs) e (inr h) t = by (test x) (among_filter test xs e h t)
  where
    by : (b : Bool) → Includes (filter test xs) e → Includes (cond b (x ∷ filter test xs) (filter test xs)) e
    by true k = inr k
    by false k = k

pub among_unfilter : {E : Type 0} (test : E → Bool) (xs : List E) (e : E) → Includes (filter test xs) e → Includes xs e × (test e ≡ true)
among_unfilter test [] e h = absurd h
among_unfilter test (x ∷ xs) e h = by (test x) refl (λ k. among_unfilter test xs e k) h
  where
    by : (b : Bool) → test x ≡ b → (Includes (filter test xs) e → Includes xs e × (test e ≡ true)) → Includes (cond b (x ∷ filter test xs) (filter test xs)) e → Includes (x ∷ xs) e × (test e ≡ true)
    by true t rest (inl is) = (inl is, ap test (sym is) ∙ t)
    by true t rest (inr k) = let found = rest k in (inr found.0, found.1)
    by false t rest k = let found = rest k in (inr found.0, found.1)

pub among_range : (a n j : ℕ) → a ≤ j → j < a + n → Includes (range_with_len a n) j
among_range a zero j low high = absurd (omega (arith, low, high))
among_range a (suc n) j low high = by (nat_lt a j) refl (λ above. among_range (a + 1) n j above (omega (arith, high)))
  where
    by : (b : Bool) → nat_lt a j ≡ b → (a + 1 ≤ j → Includes (range_with_len (a + 1) n) j) → Includes (range_with_len a (suc n)) j
    by true t rest = let above : a < j = ltb-true a j t in inr (rest (omega (arith, above)))
    by false t rest = let below : j ≤ a = ltb-false a j t in inl (omega (arith, low, below))

pub among_unrange : (a n j : ℕ) → Includes (range_with_len a n) j → j < a + n
among_unrange a zero j h = absurd h
among_unrange a (suc n) j (inl is) = omega (arith, is)
among_unrange a (suc n) j (inr h) = let high : j < (a + 1) + n = among_unrange (a + 1) n j h in omega (arith, high)

pub rising_append : {E : Type 0} (Less : E → E → Type 0) (xs ys : List E) → Rising Less xs → Rising Less ys → ((e f : E) → Includes xs e → Includes ys f → Less e f) → Rising Less (xs ++ ys)
rising_append Less [] ys rises others apart = others
rising_append Less (x ∷ xs) ys rises others apart = (
  λ f h. elim (among_either xs ys f h) [
    | inl k ↦ rises.0 f k
    | inr k ↦ apart x f (inl refl) k
  ],
  rising_append Less xs ys rises.1 others (λ e f h k. apart e f (inr h) k),
)

pub rising_flat : {X E : Type 0} (Low : X → X → Type 0) (Less : E → E → Type 0) (f : X → List E) (xs : List X) → Rising Low xs → ((x : X) → Rising Less (f x)) → ((x y : X) → Low x y → (d e : E) → Includes (f x) d → Includes (f y) e → Less d e) → Rising Less (flat_map f xs)
rising_flat Low Less f [] rises each apart = tt
rising_flat Low Less f (x ∷ xs) rises each apart =
    rising_append Less (f x) (flat_map f xs) (each x) (rising_flat Low Less f xs rises.1 each apart) (λ d e h k. let found = among_unflat f xs e k in apart x found.0 (rises.0 found.0 found.1.0) d e h found.1.1)

pub rising_map : {X E : Type 0} (Low : X → X → Type 0) (Less : E → E → Type 0) (f : X → E) (xs : List X) → Rising Low xs → ((x y : X) → Low x y → Less (f x) (f y)) → Rising Less (map f xs)
rising_map Low Less f [] rises keeps = tt
rising_map Low Less f (x ∷ xs) rises keeps =
    (λ e h. let found = among_unmap f xs e h in subst (Less (f x)) found.1.1 (keeps x found.0 (rises.0 found.0 found.1.0)), rising_map Low Less f xs rises.1 keeps)

pub rising_filter : {E : Type 0} (Less : E → E → Type 0) (test : E → Bool) (xs : List E) → Rising Less xs → Rising Less (filter test xs)
rising_filter Less test [] rises = tt
rising_filter Less test (x ∷ xs) rises = by (test x) (rising_filter Less test xs rises.1)
  where
    by : (b : Bool) → Rising Less (filter test xs) → Rising Less (cond b (x ∷ filter test xs) (filter test xs))
    by true rest = (λ f there. rises.0 f (among_unfilter test xs f there).0, rest)
    by false rest = rest
