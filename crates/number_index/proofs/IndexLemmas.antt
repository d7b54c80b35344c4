-- The places of all numbers in one list: where those of each begin, and how many there are.
use Rattle.std.proofs.Common.{◌≡◌, ℕ, zero, suc, ◌+◌, ◌-◌, ◌<◌, ◌≤◌, refl, sym, ◌∙◌, ap, subst, List, [], ◌∷◌, ◌++◌, length, get_or, take, drop, Bool, true, false, cond, nat_eq, nat_lt, arith, inl, inr, length-append, append_assoc, append-nil, add-one, eq-eqb, eqb-true, ltb-true, ltb-false}
use Rattle.std.specs.Prelude.{All, slice_range}
use Rattle.std.proofs.lemmas.Bool.{both_ways, cases_order}
use Rattle.number_index.specs.Standing.{stands_at, stands_from}
use Rattle.number_index.specs.Indexed.{places_below, heads_below, AreIndexed, part_of, HeadsRise}

-- ---- how many places there are

abbrev one_if : Bool → ℕ
one_if true = 1
one_if false = 0

-- how many of the numbers are below
abbrev count_below : ℕ → List ℕ → ℕ
count_below bound [] = 0
count_below bound (m ∷ ms) = one_if (nat_lt m bound) + count_below bound ms

count_few : (bound : ℕ) (ms : List ℕ) → count_below bound ms ≤ length ms
count_few bound [] = omega arith
count_few bound (m ∷ ms) = by (nat_lt m bound) (count_few bound ms)
  where
    by : (b : Bool) → count_below bound ms ≤ length ms → one_if b + count_below bound ms ≤ length (m ∷ ms)
    by true rest = omega (arith, rest)
    by false rest = omega (arith, rest)

count_none : (ms : List ℕ) → count_below 0 ms ≡ 0
count_none [] = refl
count_none (zero ∷ ms) = let rest = count_none ms in omega (arith, rest)
count_none (suc m ∷ ms) = by (nat_lt (suc m) 0) refl (count_none ms)
  where
    by : (b : Bool) → nat_lt (suc m) 0 ≡ b → count_below 0 ms ≡ 0 → one_if b + count_below 0 ms ≡ 0
    by true t rest = let low : suc m < 0 = ltb-true (suc m) 0 t in absurd (omega (arith, low))
    by false t rest = omega (arith, rest)

-- one number more
one_test : (m n : ℕ) → one_if (nat_lt m (suc n)) ≡ one_if (nat_lt m n) + one_if (nat_eq m n)
one_test m n = by (nat_lt m (suc n)) (nat_lt m n) (nat_eq m n) refl refl refl
  where
    by : (a b c : Bool) → nat_lt m (suc n) ≡ a → nat_lt m n ≡ b → nat_eq m n ≡ c → one_if a ≡ one_if b + one_if c
    by true true true p q r = let low : m < n = ltb-true m n q in absurd (omega (arith, low, eqb-true m n r))
    by true true false p q r = omega arith
    by true false true p q r = omega arith
    by true false false p q r =
        let low : m < suc n = ltb-true m (suc n) p in
        let high : n ≤ m = ltb-false m n q in
        let same : m ≡ n = omega (arith, low, high) in
        absurd (both_ways (nat_eq m n) r (eq-eqb m n same))
    by false true c p q r =
        let low : m < n = ltb-true m n q in
        let high : suc n ≤ m = ltb-false m (suc n) p in
        absurd (omega (arith, low, high))
    by false false true p q r = let high : suc n ≤ m = ltb-false m (suc n) p in absurd (omega (arith, high, eqb-true m n r))
    by false false false p q r = omega arith

stands_length : (n k m : ℕ) (ms : List ℕ) → length (stands_from n k (m ∷ ms)) ≡ one_if (nat_eq m n) + length (stands_from n (k + 1) ms)
stands_length n k m ms = by (nat_eq m n)
  where
    by : (b : Bool) → length (cond b (k ∷ stands_from n (k + 1) ms) (stands_from n (k + 1) ms)) ≡ one_if b + length (stands_from n (k + 1) ms)
    by true = omega arith
    by false = omega arith

count_step : (n k : ℕ) (ms : List ℕ) → count_below (suc n) ms ≡ count_below n ms + length (stands_from n k ms)
count_step n k [] = refl
count_step n k (m ∷ ms) =
    let rest : count_below (suc n) ms ≡ count_below n ms + length (stands_from n (k + 1) ms) = count_step n (k + 1) ms in
    let here : one_if (nat_lt m (suc n)) ≡ one_if (nat_lt m n) + one_if (nat_eq m n) = one_test m n in
    let long : length (stands_from n k (m ∷ ms)) ≡ one_if (nat_eq m n) + length (stands_from n (k + 1) ms) = stands_length n k m ms in
    omega (arith, rest, here, long)

pub below_length : (numbers : List ℕ) (bound : ℕ) → length (places_below numbers bound) ≡ count_below bound numbers
below_length numbers zero = sym (count_none numbers)
below_length numbers (suc n) =
    length-append (places_below numbers n) (stands_at n numbers) ∙ ap (λ k. k + length (stands_at n numbers)) (below_length numbers n) ∙ sym (count_step n 0 numbers)

pub below_few : (numbers : List ℕ) (bound : ℕ) → length (places_below numbers bound) ≤ length numbers
below_few numbers bound = let same = below_length numbers bound in let few = count_few bound numbers in omega (arith, same, few)

-- ---- heads

pub heads_length : (numbers : List ℕ) (bound : ℕ) → length (heads_below numbers bound) ≡ suc bound
heads_length numbers zero = refl
heads_length numbers (suc n) = let rest = heads_length numbers n in length-append (heads_below numbers n) (length (places_below numbers (suc n)) ∷ []) ∙ omega (arith, rest)

at_push : (xs : List ℕ) (e d : ℕ) → get_or (xs ++ e ∷ []) (length xs) d ≡ e
at_push [] e d = refl
at_push (x ∷ xs) e d = at_push xs e d

before_push : (xs : List ℕ) (e i d : ℕ) → i < length xs → get_or (xs ++ e ∷ []) i d ≡ get_or xs i d
before_push [] e i d h = absurd (omega (arith, h))
before_push (x ∷ xs) e zero d h = refl
before_push (x ∷ xs) e (suc i) d h = before_push xs e i d (omega (arith, h))

pub head_at : (numbers : List ℕ) (bound n : ℕ) → n ≤ bound → get_or (heads_below numbers bound) n 0 ≡ length (places_below numbers n)
head_at numbers zero zero h = refl
head_at numbers zero (suc n) h = absurd (omega (arith, h))
head_at numbers (suc b) n h = elim (cases_order n (suc b)) [
  | inl same ↦ subst (λ i. get_or (heads_below numbers b ++ length (places_below numbers (suc b)) ∷ []) i 0 ≡ length (places_below numbers n)) (heads_length numbers b ∙ sym same)
      (at_push (heads_below numbers b) (length (places_below numbers (suc b))) 0 ∙ ap (λ i. length (places_below numbers i)) (sym same))
  | inr other ↦ elim other [
    | inl low ↦ (let long : length (heads_below numbers b) ≡ suc b = heads_length numbers b in
        before_push (heads_below numbers b) (length (places_below numbers (suc b))) n 0 (omega (arith, low, long)) ∙ head_at numbers b n (omega (arith, low)))
    | inr high ↦ absurd (omega (arith, h, high))
  ]
]

-- ---- parts

-- the places of one number stand behind those of the numbers below it
record IsParted (whole front block : List ℕ) : Type 0 where
  rest : List ℕ
  is : whole ≡ (front ++ block) ++ rest

parted : (numbers : List ℕ) (bound n : ℕ) → n < bound → IsParted (places_below numbers bound) (places_below numbers n) (stands_at n numbers)
parted numbers zero n h = absurd (omega (arith, h))
parted numbers (suc b) n h = elim (cases_order n b) [
  | inl same ↦ record {
    rest = [];
    is = subst (λ i. places_below numbers (suc b) ≡ places_below numbers (suc i) ++ []) (sym same) (sym (append-nil (places_below numbers (suc b))));
  }
  | inr other ↦ elim other [
    | inl low ↦ (let found : IsParted (places_below numbers b) (places_below numbers n) (stands_at n numbers) = parted numbers b n low in
        record {
          rest = found.rest ++ stands_at b numbers;
          is = ap (λ l. l ++ stands_at b numbers) found.is ∙ append_assoc (places_below numbers n ++ stands_at n numbers) found.rest (stands_at b numbers);
        })
    | inr high ↦ absurd (omega (arith, h, high))
  ]
]

drop_front : (front xs : List ℕ) → drop (length front) (front ++ xs) ≡ xs
drop_front [] xs = refl
drop_front (f ∷ front) xs = drop_front front xs

take_front : (block xs : List ℕ) → take (length block) (block ++ xs) ≡ block
take_front [] xs = refl
take_front (b ∷ block) xs = ap (λ l. b ∷ l) (take_front block xs)

slice_of : (front block rest : List ℕ) → slice_range ((front ++ block) ++ rest) (length front) (length (front ++ block)) ≡ block
slice_of front block rest =
    let size : length (front ++ block) ≡ length front + length block = length-append front block in
    ap (λ l. take (length (front ++ block) - length front) (drop (length front) l)) (append_assoc front block rest)
    ∙ ap (take (length (front ++ block) - length front)) (drop_front front (block ++ rest))
    ∙ ap (λ k. take k (block ++ rest)) {x = length (front ++ block) - length front} {y = length block} (omega (arith, size))
    ∙ take_front block rest

part_at : (numbers : List ℕ) (bound n : ℕ) → n < bound → slice_range (places_below numbers bound) (length (places_below numbers n)) (length (places_below numbers (suc n))) ≡ stands_at n numbers
part_at numbers bound n h =
    let found : IsParted (places_below numbers bound) (places_below numbers n) (stands_at n numbers) = parted numbers bound n h in
    ap (λ l. slice_range l (length (places_below numbers n)) (length (places_below numbers (suc n)))) found.is ∙ slice_of (places_below numbers n) (stands_at n numbers) found.rest

part_inside : (numbers : List ℕ) (bound n : ℕ) → n < bound → length (places_below numbers (suc n)) ≤ length (places_below numbers bound)
part_inside numbers bound n h =
    let found : IsParted (places_below numbers bound) (places_below numbers n) (stands_at n numbers) = parted numbers bound n h in
    let size : length (places_below numbers bound) ≡ length (places_below numbers (suc n)) + length found.rest = ap length found.is ∙ length-append (places_below numbers (suc n)) found.rest in
    omega (arith, size)

-- a number that isn't below the bound stands nowhere
nowhere : (n k bound : ℕ) (ms : List ℕ) → bound ≤ n → All (λ m. m < bound) ms → stands_from n k ms ≡ []
nowhere n k bound [] h below = refl
nowhere n k bound (m ∷ ms) h below = by (nat_eq m n) refl (nowhere n (k + 1) bound ms h (λ i d g. below (suc i) d (omega (arith, g))))
  where
    by : (b : Bool) → nat_eq m n ≡ b → stands_from n (k + 1) ms ≡ [] → cond b (k ∷ stands_from n (k + 1) ms) (stands_from n (k + 1) ms) ≡ []
    by true is rest = let same : m ≡ n = eqb-true m n is in let low : m < bound = below 0 0 (omega arith) in absurd (omega (arith, same, low, h))
    by false is rest = rest

-- ---- the index

module _ (numbers heads places : List ℕ) (index : AreIndexed numbers heads places) where
  long : length heads ≡ suc index.bound
  long = ap length index.heads_are ∙ heads_length numbers index.bound

  head_is : (n : ℕ) → n ≤ index.bound → get_or heads n 0 ≡ length (places_below numbers n)
  head_is n h = ap (λ hs. get_or hs n 0) index.heads_are ∙ head_at numbers index.bound n h

  next_is : (n : ℕ) → n < index.bound → get_or heads (n + 1) 0 ≡ length (places_below numbers (suc n))
  next_is n h = head_is (n + 1) (omega (arith, h)) ∙ ap (λ i. length (places_below numbers i)) (add-one n)

  pub heads_rise : HeadsRise heads places
  heads_rise = record {
    rise = λ n h.
        let low : n < index.bound = omega (arith, h, long) in
        let size : length (places_below numbers (suc n)) ≡ length (places_below numbers n) + length (stands_at n numbers) = length-append (places_below numbers n) (stands_at n numbers) in
        omega (arith, head_is n (omega (arith, low)), next_is n low, size);
    within = λ n h.
        let low : n < index.bound = omega (arith, h, long) in
        let size : length places ≡ length (places_below numbers index.bound) = ap length index.places_are in
        omega (arith, next_is n low, part_inside numbers index.bound n low, size);
  }

  pub part_is : (n : ℕ) → part_of heads places n ≡ stands_at n numbers
  part_is n = by (nat_lt (n + 1) (length heads)) refl
    where
      by : (b : Bool) → nat_lt (n + 1) (length heads) ≡ b → cond b (slice_range places (get_or heads n 0) (get_or heads (n + 1) 0)) [] ≡ stands_at n numbers
      by true t =
          let inside : n + 1 < length heads = ltb-true (n + 1) (length heads) t in
          let low : n < index.bound = omega (arith, inside, long) in
          ap (λ l. slice_range l (get_or heads n 0) (get_or heads (n + 1) 0)) index.places_are
          ∙ ap (λ i. slice_range (places_below numbers index.bound) i (get_or heads (n + 1) 0)) (head_is n (omega (arith, low)))
          ∙ ap (λ i. slice_range (places_below numbers index.bound) (length (places_below numbers n)) i) (next_is n low)
          ∙ part_at numbers index.bound n low
      by false t =
          let past : length heads ≤ n + 1 = ltb-false (n + 1) (length heads) t in
          sym (nowhere n 0 index.bound numbers (omega (arith, past, long)) index.below)
