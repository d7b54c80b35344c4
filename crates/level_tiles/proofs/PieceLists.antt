-- Places in a list: those at which a test holds, in order.
use Rattle.std.proofs.Common.{◌≡◌, ℕ, zero, suc, ◌+◌, ◌<◌, ◌∙◌, refl, sym, ap, subst, List, [], ◌∷◌, length, map, filter, get_or, Bool, true, false, cond, ◌&&◌, inl, inr, arith, nat_eq, nat_lt, lt-ltb}
use Rattle.std.specs.Prelude.{◌⊎◌, Some, slice_get}
use Rattle.std.specs.List.{filter_map, cons_option, position_or_len}
use Rattle.std.proofs.lemmas.Bool.{both_ways, ne_eqb, eq-eqb}
use Rattle.std.proofs.lemmas.List.Recursion.{is_position_or_len}
use Rattle.road_pieces.specs.Rows.{stops}
use Rattle.road_pieces.specs.Among.{Once}
use Rattle.road_pieces.proofs.Members.{IsIn, among_from_in, in_at}
use Rattle.road_walks.proofs.Sorted.{Sorted, numbers_connected, below_self, below_on}
use Rattle.folder_spec.specs.Tables.{first_index}

pub first_is_place : {E : Type 0} (test : E → Bool) (es : List E) → first_index test es ≡ position_or_len test es
first_is_place test es = is_position_or_len (first_index test) test refl (λ e rest. ap (cond (test e) 0) {x = suc (first_index test rest)} {y = 1 + first_index test rest} (omega arith)) es

-- ---- the places at which a test holds

module _ {E : Type 0} (test : E → Bool) where
  -- they are those below the length at which it holds
  pub of_stops : (k : ℕ) (es : List E) (i : ℕ) → IsIn (stops test k es) i → (j : ℕ) × ((i ≡ k + j) × ((j < length es) × ((d : E) → test (get_or es j d) ≡ true)))
  of_stops k [] i h = absurd h
  of_stops k (e ∷ es) i h = by (test e) refl h (of_stops (k + 1) es i)
    where
      by : (b : Bool) → test e ≡ b → IsIn (cond b (k ∷ stops test (k + 1) es) (stops test (k + 1) es)) i → (IsIn (stops test (k + 1) es) i → (j : ℕ) × ((i ≡ k + 1 + j) × ((j < length es) × ((d : E) → test (get_or es j d) ≡ true)))) → (j : ℕ) × ((i ≡ k + j) × ((j < length (e ∷ es)) × ((d : E) → test (get_or (e ∷ es) j d) ≡ true)))
      by true t (inl is) rest = (0, (omega (arith, is), (omega arith, λ d. t)))
      by true t (inr h) rest = let (j, (is, (inside, holds))) = rest h in (suc j, (omega (arith, is), (omega (arith, inside), holds)))
      by false t h rest = let (j, (is, (inside, holds))) = rest h in (suc j, (omega (arith, is), (omega (arith, inside), holds)))

  pub in_stops : (k : ℕ) (es : List E) (j : ℕ) (d : E) → j < length es → test (get_or es j d) ≡ true → IsIn (stops test k es) (k + j)
  in_stops k [] j d h holds = absurd (omega (arith, h))
  in_stops k (e ∷ es) zero d h holds = subst (λ b. IsIn (cond b (k ∷ stops test (k + 1) es) (stops test (k + 1) es)) (k + 0)) (sym holds) (inl (omega arith))
  in_stops k (e ∷ es) (suc j) d h holds = by (test e) (subst (IsIn (stops test (k + 1) es)) {x = k + 1 + j} {y = k + suc j} (omega arith) (in_stops (k + 1) es j d (omega (arith, h)) holds))
    where
      by : (b : Bool) → IsIn (stops test (k + 1) es) (k + suc j) → IsIn (cond b (k ∷ stops test (k + 1) es) (stops test (k + 1) es)) (k + suc j)
      by true there = inr there
      by false there = there

  -- .. in rising order
  pub stops_sorted : (k : ℕ) (es : List E) → Sorted nat_lt numbers_connected below_self below_on (stops test k es)
  stops_sorted k [] = tt
  stops_sorted k (e ∷ es) = by (test e) (stops_sorted (k + 1) es)
    where
      by : (b : Bool) → Sorted nat_lt numbers_connected below_self below_on (stops test (k + 1) es) → Sorted nat_lt numbers_connected below_self below_on (cond b (k ∷ stops test (k + 1) es) (stops test (k + 1) es))
      by true rest = ((λ i h. let (j, (is, _)) = of_stops (k + 1) es i h in lt-ltb k i (omega (arith, is))), rest)
      by false rest = rest

  -- what stands there is what passes
  stops_give : {A : Type 0} (f : E → A) (all : List A) (k : ℕ) (es : List E) → ((i : ℕ) (d : E) → i < length es → slice_get all (k + i) ≡ Some (f (get_or es i d))) → filter_map (slice_get all) (stops test k es) ≡ map f (filter test es)
  stops_give f all k [] at = refl
  stops_give f all k (e ∷ es) at =
      by (test e) (stops_give f all (k + 1) es (λ i d h. ap (slice_get all) {x = k + 1 + i} {y = k + suc i} (omega arith) ∙ at (suc i) d (omega (arith, h))))
    where
      here : slice_get all k ≡ Some (f e)
      here = ap (slice_get all) {x = k} {y = k + 0} (omega arith) ∙ at 0 e (omega arith)

      by : (b : Bool) → filter_map (slice_get all) (stops test (k + 1) es) ≡ map f (filter test es) → filter_map (slice_get all) (cond b (k ∷ stops test (k + 1) es) (stops test (k + 1) es)) ≡ map f (cond b (e ∷ filter test es) (filter test es))
      by true rest = λ i. cons_option (here i) (rest i)
      by false rest = rest

  pub at_stops : {A : Type 0} (f : E → A) (es : List E) → filter_map (slice_get (map f es)) (stops test 0 es) ≡ map f (filter test es)
  at_stops f es = stops_give f (map f es) 0 es (λ i d h. ap (slice_get (map f es)) {x = 0 + i} {y = i} (omega arith) ∙ got f es i d h)
    where
      got : {A : Type 0} (f : E → A) (es : List E) (i : ℕ) (d : E) → i < length es → slice_get (map f es) i ≡ Some (f (get_or es i d))
      got f [] i d h = absurd (omega (arith, h))
      got f (e ∷ es) zero d h = refl
      got f (e ∷ es) (suc i) d h = got f es i d (omega (arith, h))

-- ---- where a place stands among these

module _ {E : Type 0} (is : E → Bool) (test : E → Bool) (within : (e : E) → is e ≡ true → test e ≡ true) where
  other_place : (k m : ℕ) → nat_eq (k + suc m) k ≡ false
  other_place k m = ne_eqb (k + suc m) k (λ e. omega (arith, e))

  -- the first element that is looked for passes the test: its place stands among the places of those that pass where it
  -- stands among these
  place_from : (k : ℕ) (es : List E) → first_index (nat_eq (k + first_index is es)) (stops test k es) ≡ first_index is (filter test es)
  place_from k [] = refl
  place_from k (e ∷ es) = by (is e) (test e) refl refl (place_from (k + 1) es)
    where
      next : (m : ℕ) → first_index (nat_eq (k + 1 + m)) (stops test (k + 1) es) ≡ first_index (nat_eq (k + suc m)) (stops test (k + 1) es)
      next m = ap (λ n. first_index (nat_eq n) (stops test (k + 1) es)) (omega arith)

      by : (a b : Bool) → is e ≡ a → test e ≡ b → first_index (nat_eq (k + 1 + first_index is es)) (stops test (k + 1) es) ≡ first_index is (filter test es) → first_index (nat_eq (k + cond a 0 (suc (first_index is es)))) (cond b (k ∷ stops test (k + 1) es) (stops test (k + 1) es)) ≡ first_index is (cond b (e ∷ filter test es) (filter test es))
      by true true p q rest =
          ap (λ c. cond c 0 (suc (first_index (nat_eq (k + 0)) (stops test (k + 1) es)))) (eq-eqb (k + 0) k (omega arith))
          ∙ sym (ap (λ c. cond c 0 (suc (first_index is (filter test es)))) p)
      by true false p q rest = absurd (both_ways (test e) q (within e p))
      by false true p q rest =
          ap (λ c. cond c 0 (suc (first_index (nat_eq (k + suc (first_index is es))) (stops test (k + 1) es)))) (other_place k (first_index is es))
          ∙ ap suc (sym (next (first_index is es)) ∙ rest)
          ∙ sym (ap (λ c. cond c 0 (suc (first_index is (filter test es)))) p)
      by false false p q rest = sym (next (first_index is es)) ∙ rest

  pub place_among : (es : List E) → position_or_len (nat_eq (position_or_len is es)) (stops test 0 es) ≡ first_index is (filter test es)
  place_among es =
      sym (first_is_place (nat_eq (position_or_len is es)) (stops test 0 es))
      ∙ ap (λ n. first_index (nat_eq n) (stops test 0 es)) {x = position_or_len is es} {y = 0 + first_index is es} (let e = first_is_place is es in omega (arith, e))
      ∙ place_from 0 es

-- ---- the first element that passes

pub first_below : {E : Type 0} (test : E → Bool) (es : List E) (e : E) → IsIn es e → test e ≡ true → first_index test es < length es
first_below test [] e h passes = absurd h
first_below test (f ∷ es) e h passes = by (test f) refl h (λ there. first_below test es e there passes)
  where
    by : (b : Bool) → test f ≡ b → (f ≡ e) ⊎ IsIn es e → (IsIn es e → first_index test es < length es) → cond b 0 (suc (first_index test es)) < suc (length es)
    by true t h rest = omega arith
    by false t (inl is) rest = absurd (both_ways (test f) t (ap test is ∙ passes))
    by false t (inr there) rest = let l = rest there in omega (arith, l)

-- .. is the only one
pub first_at : {E : Type 0} (test : E → Bool) (es : List E) (j : ℕ) (d : E) → Once es → j < length es → test (get_or es j d) ≡ true → ((e : E) → IsIn es e → test e ≡ true → e ≡ get_or es j d) → first_index test es ≡ j
first_at test [] j d once h passes only = absurd (omega (arith, h))
first_at test (e ∷ es) zero d once h passes only = ap (λ b. cond b 0 (suc (first_index test es))) passes
first_at test (e ∷ es) (suc j) d once h passes only = by (test e) refl (first_at test es j d once.1 (omega (arith, h)) passes (λ f k t. only f (inr k) t))
  where
    by : (b : Bool) → test e ≡ b → first_index test es ≡ j → cond b 0 (suc (first_index test es)) ≡ suc j
    by true t rest = absurd (once.0 (among_from_in es e (in_at es j d e (omega (arith, h)) (sym (only e (inl refl) t)))))
    by false t rest = ap suc rest

pub filter_both : {E : Type 0} (one two : E → Bool) (es : List E) → filter two (filter one es) ≡ filter (λ e. one e && two e) es
filter_both one two [] = refl
filter_both one two (e ∷ es) = by (one e) (filter_both one two es)
  where
    by : (b : Bool) → filter two (filter one es) ≡ filter (λ d. one d && two d) es → filter two (cond b (e ∷ filter one es) (filter one es)) ≡ cond (b && two e) (e ∷ filter (λ d. one d && two d) es) (filter (λ d. one d && two d) es)
    by true rest = ap (λ l. cond (two e) (e ∷ l) l) rest
    by false rest = rest

pub map_within : {A B C : Type 0} (f : B → C) (g : A → B) (h : A → C) (es : List A) → ((e : A) → IsIn es e → f (g e) ≡ h e) → map f (map g es) ≡ map h es
map_within f g h [] same = refl
map_within f g h (e ∷ es) same = λ i. same e (inl refl) i ∷ map_within f g h es (λ d k. same d (inr k)) i
