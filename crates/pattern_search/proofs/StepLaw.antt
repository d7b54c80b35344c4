-- One step of a search over sets of members of via ways.
use Rattle.std.proofs.Common.{◌≡◌, refl, sym, ◌∙◌, ap, subst, ℕ, zero, suc, ◌+◌, ◌≤◌, ◌<◌, Bool, true, false, cond, List, [], ◌∷◌, ◌++◌, length, get_or, inl, inr, arith, eqb-true, eq-eqb, ltb-true, lt-ltb}
use Rattle.std.specs.Prelude.{◌&&◌, ◌||◌, map, filter, Option, None, Some, nat_eq, nat_lt}
use Rattle.std.specs.List.{range_with_len, list_any}
use Rattle.pattern_search.specs.Words.{Includes}
use Rattle.pattern_search.specs.Members.{ReadState, some_member, members_after, state_at}
use Rattle.pattern_search.specs.Spelling.{members_in, state_of}
use Rattle.pattern_search.specs.ViaSets.{ViaTests, via_members, comes_to, members_come, StepsTell}
use Rattle.pattern_search.proofs.Inclusion.{among_filter, among_unfilter, among_range, among_unrange}
use Rattle.pattern_search.proofs.MemberLaw.{and_both, and_left, and_right, differ, or_left, or_right, or_either, some_of, some_is}

same_bool : (a b : Bool) → (a ≡ true → b ≡ true) → (b ≡ true → a ≡ true) → a ≡ b
same_bool true true to back = refl
same_bool true false to back = sym (to refl)
same_bool false true to back = back refl
same_bool false false to back = refl

-- a member of a set is one of its places
inside : (set : List Bool) (i : ℕ) → get_or set i false ≡ true → i < length set
inside [] i t = absurd (differ t)
inside (b ∷ set) zero t = omega arith
inside (b ∷ set) (suc i) t = let low = inside set i t in omega (arith, low)

in_set : (set : List Bool) (i : ℕ) → get_or set i false ≡ true → Includes (members_in set) i
in_set set i t = among_filter (λ j. get_or set j false) (range_with_len 0 (length set)) i (let low : i < length set = inside set i t in among_range 0 (length set) i (omega arith) (omega (arith, low))) t

of_set : (set : List Bool) (i : ℕ) → Includes (members_in set) i → get_or set i false ≡ true
of_set set i h = (among_unfilter (λ j. get_or set j false) (range_with_len 0 (length set)) i h).1

filter_within : (a b : ℕ → Bool) (js : List ℕ) → ((j : ℕ) → Includes js j → a j ≡ b j) → filter a js ≡ filter b js
filter_within a b [] same = refl
filter_within a b (j ∷ js) same =
    ap (λ t. cond t (j ∷ filter a js) (filter a js)) (same j (inl refl)) ∙ ap (λ l. cond (b j) (j ∷ l) l) (filter_within a b js (λ k there. same k (inr there)))

module _ {P : Type 0} (t : ViaTests P) (p q : P) (set can of : List Bool) (goes : Bool) (size : length set ≡ suc t.count) (goes_is : goes ≡ t.goes_on p q) (can_is : (j : ℕ) → j ≤ t.count → get_or can j false ≡ t.can j q) (of_is : (j : ℕ) → j ≤ t.count → get_or of j false ≡ t.of q j) where
  abbrev comes : ℕ → ℕ → Bool
  comes j i = (nat_eq j i && (nat_lt 0 i && t.goes_on p q)) || (nat_eq j (suc i) && t.of q j)

  to_come : (j : ℕ) → j ≤ t.count → (t.can j q && some_member (comes j) (members_in set)) ≡ true → comes_to set can goes of j ≡ true
  to_come zero low h =
      let found : (i : ℕ) × (Includes (members_in set) i × (comes zero i ≡ true)) = some_is (comes zero) (members_in set) (and_right (t.can zero q) (some_member (comes zero) (members_in set)) h) in
      elim (or_either (nat_eq zero found.0 && (nat_lt 0 found.0 && t.goes_on p q)) (nat_eq zero (suc found.0) && t.of q zero) found.1.1) [
        | inl k ↦ (let same : zero ≡ found.0 = eqb-true zero found.0 (and_left (nat_eq zero found.0) (nat_lt 0 found.0 && t.goes_on p q) k) in
            let more : 0 < found.0 = ltb-true 0 found.0 (and_left (nat_lt 0 found.0) (t.goes_on p q) (and_right (nat_eq zero found.0) (nat_lt 0 found.0 && t.goes_on p q) k)) in
            absurd (omega (arith, same, more)))
        | inr k ↦ (let same : zero ≡ suc found.0 = eqb-true zero (suc found.0) (and_left (nat_eq zero (suc found.0)) (t.of q zero) k) in absurd (omega (arith, same)))
      ]
  to_come (suc j) low h =
      let found : (i : ℕ) × (Includes (members_in set) i × (comes (suc j) i ≡ true)) = some_is (comes (suc j)) (members_in set) (and_right (t.can (suc j) q) (some_member (comes (suc j)) (members_in set)) h) in
      and_both (get_or can (suc j) false) ((goes && get_or set (suc j) false) || (get_or of (suc j) false && get_or set j false)) (can_is (suc j) low ∙ and_left (t.can (suc j) q) (some_member (comes (suc j)) (members_in set)) h)
      (elim (or_either (nat_eq (suc j) found.0 && (nat_lt 0 found.0 && t.goes_on p q)) (nat_eq (suc j) (suc found.0) && t.of q (suc j)) found.1.1) [
        | inl k ↦ (let same : suc j ≡ found.0 = eqb-true (suc j) found.0 (and_left (nat_eq (suc j) found.0) (nat_lt 0 found.0 && t.goes_on p q) k) in
            or_left (goes && get_or set (suc j) false) (get_or of (suc j) false && get_or set j false)
            (and_both goes (get_or set (suc j) false) (goes_is ∙ and_right (nat_lt 0 found.0) (t.goes_on p q) (and_right (nat_eq (suc j) found.0) (nat_lt 0 found.0 && t.goes_on p q) k)) (subst (λ i. get_or set i false ≡ true) (sym same) (of_set set found.0 found.1.0))))
        | inr k ↦ (let same : suc j ≡ suc found.0 = eqb-true (suc j) (suc found.0) (and_left (nat_eq (suc j) (suc found.0)) (t.of q (suc j)) k) in
            let at : found.0 ≡ j = omega (arith, same) in
            or_right (goes && get_or set (suc j) false) (get_or of (suc j) false && get_or set j false)
            (and_both (get_or of (suc j) false) (get_or set j false) (of_is (suc j) low ∙ and_right (nat_eq (suc j) (suc found.0)) (t.of q (suc j)) k) (subst (λ i. get_or set i false ≡ true) at (of_set set found.0 found.1.0))))
      ])

  from_come : (j : ℕ) → j ≤ t.count → comes_to set can goes of j ≡ true → (t.can j q && some_member (comes j) (members_in set)) ≡ true
  from_come zero low h = absurd (differ h)
  from_come (suc j) low h =
      let moved = and_right (get_or can (suc j) false) ((goes && get_or set (suc j) false) || (get_or of (suc j) false && get_or set j false)) h in
      and_both (t.can (suc j) q) (some_member (comes (suc j)) (members_in set)) (sym (can_is (suc j) low) ∙ and_left (get_or can (suc j) false) ((goes && get_or set (suc j) false) || (get_or of (suc j) false && get_or set j false)) h)
      (elim (or_either (goes && get_or set (suc j) false) (get_or of (suc j) false && get_or set j false) moved) [
        | inl k ↦ some_of (comes (suc j)) (members_in set) (suc j) (in_set set (suc j) (and_right goes (get_or set (suc j) false) k))
            (or_left (nat_eq (suc j) (suc j) && (nat_lt 0 (suc j) && t.goes_on p q)) (nat_eq (suc j) (suc (suc j)) && t.of q (suc j))
            (and_both (nat_eq (suc j) (suc j)) (nat_lt 0 (suc j) && t.goes_on p q) (eq-eqb (suc j) (suc j) refl) (and_both (nat_lt 0 (suc j)) (t.goes_on p q) (lt-ltb 0 (suc j) (omega arith)) (sym goes_is ∙ and_left goes (get_or set (suc j) false) k))))
        | inr k ↦ some_of (comes (suc j)) (members_in set) j (in_set set j (and_right (get_or of (suc j) false) (get_or set j false) k))
            (or_right (nat_eq (suc j) j && (nat_lt 0 j && t.goes_on p q)) (nat_eq (suc j) (suc j) && t.of q (suc j))
            (and_both (nat_eq (suc j) (suc j)) (t.of q (suc j)) (eq-eqb (suc j) (suc j) refl) (sym (of_is (suc j) low) ∙ and_left (get_or of (suc j) false) (get_or set j false) k)))
      ])

  pub step : members_after (via_members t) (members_in set) p q ≡ members_come set can goes of
  step =
      filter_within (λ j. t.can j q && some_member (comes j) (members_in set)) (comes_to set can goes of) (range_with_len 0 (suc t.count)) (λ j there.
      let high : j < 0 + suc t.count = among_unrange 0 (suc t.count) j there in
      let low : j ≤ t.count = omega (arith, high) in
      same_bool (t.can j q && some_member (comes j) (members_in set)) (comes_to set can goes of j) (to_come j low) (from_come j low))
      ∙ ap (λ n. filter (comes_to set can goes of) (range_with_len 0 n)) (sym size)

pub steps_tell : {P : Type 0} → StepsTell P
steps_tell t p q set can of goes size goes_is can_is of_is = step t p q set can of goes size goes_is can_is of_is

-- ---- the set as code makes it

-- some number passes, or none
pub none_pass : (f : ℕ → Bool) (js : List ℕ) → list_any (λ b. b) (map f js) ≡ false → filter f js ≡ []
none_pass f [] h = refl
none_pass f (j ∷ js) h = by (f j) h (none_pass f js)
  where
    by : (b : Bool) → (b || list_any (λ c. c) (map f js)) ≡ false → (list_any (λ c. c) (map f js) ≡ false → filter f js ≡ []) → cond b (j ∷ filter f js) (filter f js) ≡ []
    by true k rest = absurd (differ (sym k))
    by false k rest = rest k

pub state_some : (q : ℕ) (f : ℕ → Bool) (js : List ℕ) → list_any (λ b. b) (map f js) ≡ true → state_at q (filter f js) ≡ Some (record { letter = q; members = filter f js })
state_some q f [] h = absurd (differ h)
state_some q f (j ∷ js) h = by (f j) h (state_some q f js)
  where
    by : (b : Bool) → (b || list_any (λ c. c) (map f js)) ≡ true → (list_any (λ c. c) (map f js) ≡ true → state_at q (filter f js) ≡ Some (record { letter = q; members = filter f js })) → state_at q (cond b (j ∷ filter f js) (filter f js)) ≡ Some (record { letter = q; members = cond b (j ∷ filter f js) (filter f js) })
    by true k rest = refl
    by false k rest = rest k

length_range : (a n : ℕ) → length (range_with_len a n) ≡ n
length_range a zero = refl
length_range a (suc n) = ap suc (length_range (a + 1) n)

length_map : {A B : Type 0} (f : A → B) (xs : List A) → length (map f xs) ≡ length xs
length_map f [] = refl
length_map f (x ∷ xs) = ap suc (length_map f xs)

at_range : (f : ℕ → Bool) (a n j : ℕ) → j < n → get_or (map f (range_with_len a n)) j false ≡ f (a + j)
at_range f a zero j h = absurd (omega (arith, h))
at_range f a (suc n) zero h = ap f {x = a} {y = a + 0} (omega arith)
at_range f a (suc n) (suc j) h = at_range f (a + 1) n j (omega (arith, h)) ∙ ap f {x = a + 1 + j} {y = a + suc j} (omega arith)

-- the members of a set that was made test by test
pub made_members : (f : ℕ → Bool) (n : ℕ) → members_in (map f (range_with_len 0 n)) ≡ filter f (range_with_len 0 n)
made_members f n =
    ap (λ k. filter (λ j. get_or (map f (range_with_len 0 n)) j false) (range_with_len 0 k)) (length_map f (range_with_len 0 n) ∙ length_range 0 n)
    ∙ filter_within (λ j. get_or (map f (range_with_len 0 n)) j false) f (range_with_len 0 n) (λ j there. let high : j < 0 + n = among_unrange 0 n j there in at_range f 0 n j (omega (arith, high)) ∙ ap f {x = 0 + j} {y = j} (omega arith))

pub made_length : (f : ℕ → Bool) (n : ℕ) → length (map f (range_with_len 0 n)) ≡ n
made_length f n = length_map f (range_with_len 0 n) ∙ length_range 0 n

pub range_push : (f : ℕ → Bool) (a n : ℕ) → map f (range_with_len a (suc n)) ≡ map f (range_with_len a n) ++ f (a + n) ∷ []
range_push f a zero = ap (λ k. f k ∷ []) {x = a} {y = a + 0} (omega arith)
range_push f a (suc n) = ap (λ l. f a ∷ l) (range_push f (a + 1) n ∙ ap (λ k. map f (range_with_len (a + 1) n) ++ f k ∷ []) {x = a + 1 + n} {y = a + suc n} (omega arith))

abbrev state_with : ℕ → List ℕ → Option (ReadState ℕ)
state_with q ms = Some (record { letter = q; members = ms })

-- the state that a set makes; there is none where no member passes
pub state_made : (q : ℕ) (f : ℕ → Bool) (n : ℕ) (set : List Bool) → set ≡ map f (range_with_len 0 n) → list_any (λ b. b) set ≡ true → Some (state_of q set) ≡ state_at q (filter f (range_with_len 0 n))
state_made q f n set is some =
    ap (state_with q) (ap members_in is ∙ made_members f n) ∙ sym (state_some q f (range_with_len 0 n) (sym (ap (list_any (λ b. b)) is) ∙ some))

pub none_made : (q : ℕ) (f : ℕ → Bool) (n : ℕ) (set : List Bool) → set ≡ map f (range_with_len 0 n) → list_any (λ b. b) set ≡ false → None ≡ state_at q (filter f (range_with_len 0 n))
none_made q f n set is none = sym (ap (state_at q) (none_pass f (range_with_len 0 n) (sym (ap (list_any (λ b. b)) is) ∙ none)))
