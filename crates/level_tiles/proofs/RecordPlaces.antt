-- Lists: look-ups over a list, and over what each of its elements becomes.
use Rattle.std.proofs.Common.{◌≡◌, ℕ, zero, suc, ◌+◌, ◌<◌, refl, sym, ◌∙◌, ap, subst, List, [], ◌∷◌, ◌++◌, length, get_or, map, Bool, true, false, cond, Some, None, find, inl, inr, arith}
use Rattle.std.specs.Prelude.{◌⊎◌, ◌||◌, ◌&&◌, filter, unwrap_or, not, nat_lt, nat_eq, All}
use Rattle.std.specs.List.{flat_map, list_any, position, position_or_len, zip}
use Rattle.std.specs.Option.{option_map}
use Rattle.std.proofs.lemmas.Bool.{both_ways, lt-ltb, eqb-true, eq-eqb}
use Rattle.std.proofs.lemmas.List.{length-map}
use Rattle.road_pieces.proofs.Members.{IsIn, at_in}
use Rattle.folder_spec.specs.Tables.{first_index}

-- ---- tests

pub same_bools : (a b : Bool) → (a ≡ true → b ≡ true) → (b ≡ true → a ≡ true) → a ≡ b
same_bools true b to back = sym (to refl)
same_bools false true to back = back refl
same_bools false false to back = refl

pub none_pass : {E : Type 0} (test : E → Bool) (es : List E) → ((e : E) → IsIn es e → test e ≡ false) → filter test es ≡ []
none_pass test [] fails = refl
none_pass test (e ∷ es) fails =
    ap (λ b. cond b (e ∷ filter test es) (filter test es)) (fails e (inl refl)) ∙ none_pass test es (λ d h. fails d (inr h))

pub none_has : {E : Type 0} (test : E → Bool) (es : List E) → ((e : E) → IsIn es e → test e ≡ false) → list_any test es ≡ false
none_has test [] fails = refl
none_has test (e ∷ es) fails = by (test e) (list_any test es) (fails e (inl refl)) (none_has test es (λ d h. fails d (inr h)))
  where
    by : (a b : Bool) → a ≡ false → b ≡ false → (a || b) ≡ false
    by true b h rest = h
    by false b h rest = rest

-- ---- what holds of each element

pub each_of_all : {E : Type 0} (Is : E → Type 0) (es : List E) (e : E) → All Is es → IsIn es e → Is e
each_of_all Is es e all h =
    let (k, (inside, is)) = at_in es e h in
    subst Is (is e) (all k e inside)

pub alike_map : {E A : Type 0} (f g : E → A) (es : List E) → ((e : E) → IsIn es e → f e ≡ g e) → map f es ≡ map g es
alike_map f g [] same = refl
alike_map f g (e ∷ es) same = λ i. same e (inl refl) i ∷ alike_map f g es (λ d h. same d (inr h)) i

pub map_of_map : {E A B : Type 0} (f : E → A) (g : A → B) (es : List E) → map g (map f es) ≡ map (λ e. g (f e)) es
map_of_map f g [] = refl
map_of_map f g (e ∷ es) = ap (λ l. g (f e) ∷ l) (map_of_map f g es)

-- what each of some elements becomes, one after the other
pub flat_alike : {E A : Type 0} (f g : E → List A) (es : List E) → ((e : E) → IsIn es e → f e ≡ g e) → flat_map f es ≡ flat_map g es
flat_alike f g [] same = refl
flat_alike f g (e ∷ es) same = λ i. same e (inl refl) i ++ flat_alike f g es (λ d h. same d (inr h)) i

-- one for each element that passes no first test, but a second
pub flat_filter : {E A : Type 0} (a b : E → Bool) (g : E → A) (es : List E) → flat_map (λ e. cond (a e) [] (cond (b e) (g e ∷ []) [])) es ≡ map g (filter (λ e. not (a e) && b e) es)
flat_filter a b g [] = refl
flat_filter a b g (e ∷ es) = by (a e) (b e) (flat_filter a b g es)
  where
    by : (s t : Bool) → flat_map (λ d. cond (a d) [] (cond (b d) (g d ∷ []) [])) es ≡ map g (filter (λ d. not (a d) && b d) es)
        → (cond s [] (cond t (g e ∷ []) []) ++ flat_map (λ d. cond (a d) [] (cond (b d) (g d ∷ []) [])) es) ≡ map g (cond (not s && t) (e ∷ filter (λ d. not (a d) && b d) es) (filter (λ d. not (a d) && b d) es))
    by true t rest = rest
    by false true rest = ap (λ l. g e ∷ l) rest
    by false false rest = rest

-- two lists that are made from one, side by side
pub zip_maps : {E A B : Type 0} (f : E → A) (g : E → B) (es : List E) → zip (map f es) (map g es) ≡ map (λ e. (f e, g e)) es
zip_maps f g [] = refl
zip_maps f g (e ∷ es) = ap (λ l. (f e, g e) ∷ l) (zip_maps f g es)

-- ---- places

-- a field of the element at a place, or of what stands for none
pub field_of_place : {E A C : Type 0} (f : E → A) (g : A → C) (h : E → C) (es : List E) (k : ℕ) (a : A) (e : E) → ((d : E) → g (f d) ≡ h d) → g a ≡ h e → g (get_or (map f es) k a) ≡ h (get_or es k e)
field_of_place f g h [] k a e same none = none
field_of_place f g h (d ∷ es) zero a e same none = same d
field_of_place f g h (d ∷ es) (suc k) a e same none = field_of_place f g h es k a e same none

-- the first place at which a test passes, over a list and over what its elements become
pub place_alike : {E A : Type 0} (f : E → A) (p : A → Bool) (q : E → Bool) (es : List E) → ((e : E) → IsIn es e → p (f e) ≡ q e) → position_or_len p (map f es) ≡ first_index q es
place_alike f p q [] same = refl
place_alike f p q (e ∷ es) same =
    by (p (f e)) (q e) (position_or_len p (map f es)) (first_index q es) (same e (inl refl)) (place_alike f p q es (λ d h. same d (inr h)))
  where
    by : (a b : Bool) (m n : ℕ) → a ≡ b → m ≡ n → cond (not a) (1 + m) 0 ≡ cond b 0 (suc n)
    by true true m n h is = refl
    by true false m n h is = absurd (both_ways true h refl)
    by false true m n h is = absurd (both_ways true (sym h) refl)
    by false false m n h is = omega (arith, is)

pub index_alike : {E A : Type 0} (f : E → A) (p : A → Bool) (q : E → Bool) (es : List E) → ((e : E) → IsIn es e → p (f e) ≡ q e) → first_index p (map f es) ≡ first_index q es
index_alike f p q [] same = refl
index_alike f p q (e ∷ es) same =
    λ i. cond (same e (inl refl) i) 0 (suc (index_alike f p q es (λ d h. same d (inr h)) i))

-- where some element passes, the first that does is one of them
pub first_passing_has : {E : Type 0} (test : E → Bool) (Has : E → Type 0) (es : List E) (d e : E) → IsIn es e → test e ≡ true → ((f : E) → IsIn es f → test f ≡ true → Has f) → Has (get_or es (first_index test es) d)
first_passing_has test Has [] d e h passes each = absurd h
first_passing_has test Has (f ∷ es) d e h passes each =
    by (test f) refl h (λ k. first_passing_has test Has es d e k passes (λ g l. each g (inr l)))
  where
    by : (b : Bool) → test f ≡ b → (f ≡ e) ⊎ IsIn es e → (IsIn es e → Has (get_or es (first_index test es) d)) → Has (get_or (f ∷ es) (cond b 0 (suc (first_index test es))) d)
    by true t h rest = each f (inl refl) t
    by false t (inl is) rest = absurd (both_ways (test f) t (ap test is ∙ passes))
    by false t (inr there) rest = rest there

-- the first element that passes is one of them
pub first_passing : {E : Type 0} (test : E → Bool) (es : List E) (d : E) → first_index test es < length es → IsIn es (get_or es (first_index test es) d) × (test (get_or es (first_index test es) d) ≡ true)
first_passing test [] d h = absurd (omega (arith, h))
first_passing test (f ∷ es) d h = by (test f) refl h (first_passing test es d)
  where
    by : (b : Bool) → test f ≡ b → cond b 0 (suc (first_index test es)) < suc (length es) → (first_index test es < length es → IsIn es (get_or es (first_index test es) d) × (test (get_or es (first_index test es) d) ≡ true))
        → IsIn (f ∷ es) (get_or (f ∷ es) (cond b 0 (suc (first_index test es))) d) × (test (get_or (f ∷ es) (cond b 0 (suc (first_index test es))) d) ≡ true)
    by true t h rest = (inl refl, t)
    by false t h rest = let (there, passes) = rest (omega (arith, h)) in (inr there, passes)

pub index_inside : {E : Type 0} (test : E → Bool) (es : List E) (e : E) → IsIn es e → test e ≡ true → first_index test es < length es
index_inside test [] e h passes = absurd h
index_inside test (f ∷ es) e h passes = by (test f) refl h (λ k. index_inside test es e k passes)
  where
    by : (b : Bool) → test f ≡ b → (f ≡ e) ⊎ IsIn es e → (IsIn es e → first_index test es < length es) → cond b 0 (suc (first_index test es)) < suc (length es)
    by true t h rest = omega arith
    by false t (inl is) rest = absurd (both_ways (test f) t (ap test is ∙ passes))
    by false t (inr there) rest = let h = rest there in omega (arith, h)

-- .. and its place is the one that is answered
pub found_index : {E A : Type 0} (f : E → A) (p : A → Bool) (q : E → Bool) (es : List E) (e : E) → IsIn es e → q e ≡ true → ((d : E) → IsIn es d → p (f d) ≡ q d) → unwrap_or (position p (map f es)) 0 ≡ first_index q es
found_index f p q es e h passes same =
    let inside : first_index q es < length (map f es) = let k = index_inside q es e h passes in omega (arith, k, length-map es f) in
    ap (λ k. unwrap_or (cond (nat_lt k (length (map f es))) (Some k) None) 0) (place_alike f p q es same)
    ∙ ap (λ b. unwrap_or (cond b (Some (first_index q es)) None) 0) (lt-ltb (first_index q es) (length (map f es)) inside)

pub found_value : {E A : Type 0} (f : E → A) (p : A → Bool) (q : E → Bool) (v : A → ℕ) (w : ℕ) (es : List E) (e : E) → IsIn es e → q e ≡ true → ((d : E) → IsIn es d → p (f d) ≡ q d) → ((d : E) → IsIn es d → q d ≡ true → v (f d) ≡ w) → unwrap_or (option_map v (find p (map f es))) 0 ≡ w
found_value f p q v w [] e h passes same each = absurd h
found_value f p q v w (d ∷ es) e h passes same each =
    by (q d) refl (same d (inl refl)) h (λ k. found_value f p q v w es e k passes (λ c l. same c (inr l)) (λ c l. each c (inr l)))
  where
    by : (b : Bool) → q d ≡ b → p (f d) ≡ q d → (d ≡ e) ⊎ IsIn es e → (IsIn es e → unwrap_or (option_map v (find p (map f es))) 0 ≡ w) → unwrap_or (option_map v (cond (p (f d)) (Some (f d)) (find p (map f es)))) 0 ≡ w
    by true t is h rest =
        ap (λ b. unwrap_or (option_map v (cond b (Some (f d)) (find p (map f es)))) 0) (is ∙ t) ∙ each d (inl refl) t
    by false t is (inl here) rest = absurd (both_ways (q d) t (ap q here ∙ passes))
    by false t is (inr there) rest =
        ap (λ b. unwrap_or (option_map v (cond b (Some (f d)) (find p (map f es)))) 0) (is ∙ t) ∙ rest there

-- a number of a list is told by its first place
pub place_own : (ns : List ℕ) (m n : ℕ) → IsIn ns m → IsIn ns n → position_or_len (nat_eq m) ns ≡ position_or_len (nat_eq n) ns → m ≡ n
place_own [] m n h k same = absurd h
place_own (l ∷ ns) m n h k same =
    by (nat_eq m l) (nat_eq n l) refl refl same h k (place_own ns m n)
  where
    later : (o : ℕ) → nat_eq o l ≡ false → IsIn (l ∷ ns) o → IsIn ns o
    later o fails (inl is) = absurd (both_ways (nat_eq o l) fails (eq-eqb o l (sym is)))
    later o fails (inr there) = there

    by : (a b : Bool) → nat_eq m l ≡ a → nat_eq n l ≡ b → cond (not a) (1 + position_or_len (nat_eq m) ns) 0 ≡ cond (not b) (1 + position_or_len (nat_eq n) ns) 0 → IsIn (l ∷ ns) m → IsIn (l ∷ ns) n → (IsIn ns m → IsIn ns n → position_or_len (nat_eq m) ns ≡ position_or_len (nat_eq n) ns → m ≡ n) → m ≡ n
    by true true s t is h k rest = eqb-true m l s ∙ sym (eqb-true n l t)
    by true false s t is h k rest = absurd (omega (arith, is))
    by false true s t is h k rest = absurd (omega (arith, is))
    by false false s t is h k rest = rest (later m s h) (later n t k) (omega (arith, is))
