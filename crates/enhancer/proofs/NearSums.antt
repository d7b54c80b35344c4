-- A sum over all tiles is one over the few that can add to it, and sums that are cut.
use Rattle.std.proofs.Common.{◌≡◌, ℕ, zero, suc, ◌+◌, ◌<◌, ◌≤◌, ◌==◌, cond, ltb, Option, Some, None, List, [], ◌∷◌, length, map, get_or, refl, sym, ap, ◌∙◌, subst, inl, inr, arith}
use Rattle.std.specs.Prelude.{nat_eq, sum_by, min, position, slice_get, flat_map}
use Rattle.std.specs.List.{position_or_len, range_with_len}
use Rattle.std.proofs.lemmas.Bool.{cases_Bool, cond-true, cond-false, eqb-true, eq-eqb, ne_eqb, both_ways, cases_eq, ltb-false}
use Rattle.std.proofs.lemmas.List.{length-map}
use Rattle.std.proofs.lemmas.List.Concat.{flat_map-cons}
use Rattle.std.proofs.lemmas.List.Recursion.{is_position_or_len}
use Rattle.std.proofs.lemmas.List.Sums.{sum_by-cons, sum_by-append}
use Rattle.std.proofs.lemmas.Option.{slice_get_past}
use Rattle.bounded_flood.specs.Flood.{Occurs, is_seen}
use Rattle.bounded_flood.proofs.Members.{Distinct, Occurs-from_test, test-from_Among}
use Rattle.enhancer.specs.Graph.{at_position}

-- ---- sums

pub sum-map : {X Y : Type 0} (f : Y → ℕ) (g : X → Y) (xs : List X) → sum_by f (map g xs) ≡ sum_by (λ x. f (g x)) xs
sum-map f g [] = refl
sum-map f g (x ∷ xs) = let rest = sum-map f g xs in omega (arith, rest, sum_by-cons f (g x) (map g xs), sum_by-cons (λ y. f (g y)) x xs)

pub sum-flat_map : {X Y : Type 0} (f : Y → ℕ) (g : X → List Y) (xs : List X) → sum_by f (flat_map g xs) ≡ sum_by (λ x. sum_by f (g x)) xs
sum-flat_map f g [] = refl
sum-flat_map f g (x ∷ xs) =
    let rest = sum-flat_map f g xs in
    let first : sum_by f (flat_map g (x ∷ xs)) ≡ sum_by f (g x) + sum_by f (flat_map g xs) = ap (sum_by f) (flat_map-cons g x xs) ∙ sum_by-append f (g x) (flat_map g xs) in
    omega (arith, rest, first, sum_by-cons (λ y. sum_by f (g y)) x xs)

-- sums whose terms are cut alike are cut alike
pub cut_alike : {X : Type 0} (f g : X → ℕ) → ((x : X) → min 15_000_000 (f x) ≡ min 15_000_000 (g x)) → (xs : List X) → min 15_000_000 (sum_by f xs) ≡ min 15_000_000 (sum_by g xs)
cut_alike f g same [] = refl
cut_alike f g same (x ∷ xs) = let rest = cut_alike f g same xs in omega (arith, same x, rest, sum_by-cons f x xs, sum_by-cons g x xs)

pub none_adds : {X : Type 0} (f : X → ℕ) (xs : List X) → ((x : X) → Occurs x xs → f x ≡ 0) → sum_by f xs ≡ 0
none_adds f [] none = refl
none_adds f (x ∷ xs) none = let rest = none_adds f xs (λ y a. none y (inr a)) in omega (arith, none x (inl refl), rest, sum_by-cons f x xs)

pub same_sum : (g h : ℕ → ℕ) (ns : List ℕ) → ((t : ℕ) → Occurs t ns → g t ≡ h t) → sum_by g ns ≡ sum_by h ns
same_sum g h [] e = refl
same_sum g h (t ∷ ts) e =
    let here = e t (inl refl) in
    let rest = same_sum g h ts (λ u a. e u (inr a)) in
    omega (arith, here, rest, sum_by-cons g t ts, sum_by-cons h t ts)

pub no_sum : (ns : List ℕ) → sum_by {X = ℕ} (λ t. 0) ns ≡ 0
no_sum [] = refl
no_sum (t ∷ ts) = let rest = no_sum ts in omega (arith, rest, sum_by-cons {X = ℕ} (λ t. 0) t ts)

one_more : (g h : ℕ → ℕ) (k a : ℕ) (ns : List ℕ) → g k ≡ a → h k ≡ 0 → ((t : ℕ) → (k ≡ t → ⊥) → g t ≡ h t) → Distinct ns → Occurs k ns → sum_by g ns ≡ a + sum_by h ns
one_more g h k a [] ga hz e d in_it = absurd in_it
one_more g h k a (t ∷ ts) ga hz e d in_it = elim in_it [
  | inl is ↦
      let rest = same_sum g h ts (λ u there. e u (λ same. d.0 (subst (λ w. Occurs w ts) (sym (is ∙ same)) there))) in
      let gt : g t ≡ a = ap g is ∙ ga in
      let ht : h t ≡ 0 = ap h is ∙ hz in
      omega (arith, rest, gt, ht, sum_by-cons g t ts, sum_by-cons h t ts)
  | inr there ↦
      let rest = one_more g h k a ts ga hz e d.1 there in
      let other : g t ≡ h t = e t (λ same. d.0 (subst (λ w. Occurs w ts) same there)) in
      omega (arith, rest, other, sum_by-cons g t ts, sum_by-cons h t ts)
]

-- the place of a number among numbers
abbrev first_num : List ℕ → ℕ → ℕ
first_num [] t = 0
first_num (n ∷ ns) t = cond (n == t) 0 (suc (first_num ns t))

first_is : (ns : List ℕ) (t : ℕ) → first_num ns t ≡ position_or_len (λ n. n == t) ns
first_is ns t = is_position_or_len (λ xs. first_num xs t) (λ n. n == t) refl (λ n xs. let e : suc (first_num xs t) ≡ 1 + first_num xs t = omega arith in ap (cond (n == t) 0) e) ns

module _ {A : Type 0} (num : A → ℕ) where
  -- the first with this number
  abbrev pub lookup : List A → ℕ → Option A
  lookup [] t = None
  lookup (r ∷ rs) t = cond (num r == t) (Some r) (lookup rs t)

  get_first : (rs : List A) (t : ℕ) → slice_get rs (first_num (map num rs) t) ≡ lookup rs t
  get_first [] t = refl
  get_first (r ∷ rs) t = elim (cases_Bool (num r == t)) [
    | inl yes_it ↦
        ap (λ n. slice_get (r ∷ rs) n) (cond-true (num r == t) 0 (suc (first_num (map num rs) t)) yes_it) ∙ sym (cond-true (num r == t) (Some r) (lookup rs t) yes_it)
    | inr not_it ↦
        ap (λ n. slice_get (r ∷ rs) n) (cond-false (num r == t) 0 (suc (first_num (map num rs) t)) not_it) ∙ get_first rs t ∙ sym (cond-false (num r == t) (Some r) (lookup rs t) not_it)
  ]

  pub look_up : (rs : List A) (t : ℕ) → at_position rs (position (λ n. n == t) (map num rs)) ≡ lookup rs t
  look_up rs t =
      let ns : List ℕ = map num rs in
      let p : ℕ = first_num ns t in
      let here : position (λ n. n == t) ns ≡ cond (ltb p (length ns)) (Some p) None = ap (λ q. cond (ltb q (length ns)) (Some q) None) (sym (first_is ns t)) in
      elim (cases_Bool (ltb p (length ns))) [
        | inl yes_it ↦ ap (at_position rs) (here ∙ cond-true (ltb p (length ns)) (Some p) None yes_it) ∙ get_first rs t
        | inr not_it ↦
            ap (at_position rs) (here ∙ cond-false (ltb p (length ns)) (Some p) None not_it)
            ∙ sym (slice_get_past rs p (omega (arith, ltb-false p (length ns) not_it, length-map rs num))) ∙ get_first rs t
      ]

  module _ (f : A → ℕ) where
    abbrev pub worth : Option A → ℕ
    worth None = 0
    worth (Some r) = f r

    not_there : (rs : List A) (k : ℕ) → (Occurs k (map num rs) → ⊥) → worth (lookup rs k) ≡ 0
    not_there [] k h = refl
    not_there (r ∷ rs) k h =
        ap worth (cond-false (num r == k) (Some r) (lookup rs k) (ne_eqb (num r) k (λ e. h (inl e))))
        ∙ not_there rs k (λ a. h (inr a))

    -- the sum over all, where those whose number isn't among these add nothing
    pub few_add : (rs : List A) (ns : List ℕ) → Distinct ns → Distinct (map num rs)
        → ((r : A) → Occurs r rs → (Occurs (num r) ns → ⊥) → f r ≡ 0)
        → sum_by (λ t. worth (lookup rs t)) ns ≡ sum_by f rs
    few_add [] ns d dr far = no_sum ns
    few_add (r ∷ rs) ns d dr far =
        let rest = few_add rs ns d dr.1 (λ q a. far q (inr a)) in
        let elsewhere : (t : ℕ) → (num r ≡ t → ⊥) → worth (lookup (r ∷ rs) t) ≡ worth (lookup rs t) =
        λ t other. ap worth (cond-false (num r == t) (Some r) (lookup rs t) (ne_eqb (num r) t other)) in
        elim (cases_Bool (is_seen nat_eq (num r) ns)) [
          | inl yes_it ↦
              let more = one_more (λ t. worth (lookup (r ∷ rs) t)) (λ t. worth (lookup rs t)) (num r) (f r) ns
              (ap worth (cond-true (num r == num r) (Some r) (lookup rs (num r)) (eq-eqb (num r) (num r) refl)))
              (not_there rs (num r) dr.0) elsewhere d
              (Occurs-from_test nat_eq eqb-true (λ n. eq-eqb n n refl) (num r) ns yes_it) in
              omega (arith, more, rest, sum_by-cons f r rs)
          | inr not_it ↦
              let absent : Occurs (num r) ns → ⊥ = λ a. both_ways (is_seen nat_eq (num r) ns) not_it (test-from_Among nat_eq eqb-true (λ n. eq-eqb n n refl) (num r) ns a) in
              let zero_here : f r ≡ 0 = far r (inl refl) absent in
              let same = same_sum (λ t. worth (lookup (r ∷ rs) t)) (λ t. worth (lookup rs t)) ns
              (λ t a. elsewhere t (λ e. absent (subst (λ w. Occurs w ns) (sym e) a))) in
              omega (arith, same, rest, zero_here, sum_by-cons f r rs)
        ]

-- ---- numbers of which none stands twice

above : (x y : ℕ) (xs : List ℕ) → ((k : ℕ) → k < length xs → x < get_or xs k 0) → Occurs y xs → x < y
above x y [] h at = absurd at
above x y (z ∷ zs) h at = elim at [
  | inl e ↦ let first : x < z = h 0 (omega arith) in omega (arith, first, e)
  | inr there ↦ above x y zs (λ k inside. h (suc k) (omega (arith, inside))) there
]

pub rise_distinct : (xs : List ℕ) → ((i j : ℕ) → i < j → j < length xs → get_or xs i 0 < get_or xs j 0) → Distinct xs
rise_distinct [] rise = tt
rise_distinct (x ∷ xs) rise = (
  (λ at. let high = above x x xs (λ k inside. rise 0 (suc k) (omega arith) (omega (arith, inside))) at in absurd (omega (arith, high))),
  rise_distinct xs (λ i j below inside. rise (suc i) (suc j) (omega (arith, below)) (omega (arith, inside))),
)

pub image_of : (f : ℕ → ℕ) (y a n : ℕ) → Occurs y (map f (range_with_len a n)) → (k : ℕ) × (a ≤ k) × (k < a + n) × (f k ≡ y)
image_of f y a zero at = absurd at
image_of f y a (suc n) at = elim at [
  | inl e ↦ (a, omega arith, omega arith, e)
  | inr there ↦ let w = image_of f y (a + 1) n there in (w.0, omega (arith, w.1), omega (arith, w.2), w.3)
]

pub in_image : (f : ℕ → ℕ) (k a n : ℕ) → a ≤ k → k < a + n → Occurs (f k) (map f (range_with_len a n))
in_image f k a zero low high = absurd (omega (arith, low, high))
in_image f k a (suc n) low high = elim (cases_eq a k) [
  | inl e ↦ inl (ap f e)
  | inr other ↦ inr (in_image f k (a + 1) n (omega (arith, low, other)) (omega (arith, high)))
]

pub images_distinct : (f : ℕ → ℕ) (a n : ℕ) → ((j k : ℕ) → j < a + n → k < a + n → f j ≡ f k → j ≡ k) → Distinct (map f (range_with_len a n))
images_distinct f a zero one = tt
images_distinct f a (suc n) one = (
  (λ at. let w = image_of f (f a) (a + 1) n at in let same = one w.0 a (omega (arith, w.2)) (omega arith) w.3 in absurd (omega (arith, w.1, same))),
  images_distinct f (a + 1) n (λ j k hj hk e. one j k (omega (arith, hj)) (omega (arith, hk)) e),
)
