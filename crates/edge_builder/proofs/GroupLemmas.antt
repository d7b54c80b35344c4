-- The places of numbers: how links to them are made, and how they are followed.
use Rattle.std.proofs.Common.{◌≡◌, ◌≢◌, ℕ, zero, suc, ◌+◌, ◌<◌, ◌≤◌, refl, sym, ◌∙◌, ap, subst, List, [], ◌∷◌, ◌++◌, length, get_or, set, drop, replicate, Bool, true, false, cond, nat_eq, arith, inl, inr, get_or-set_same, get_or-set_other, drop-cons, drop_of_length-le, length-append, append_assoc, append-nil, add-one, eq-eqb, eqb-true}
use Rattle.std.proofs.lemmas.Bool.{both_ways, cases_order}
use Rattle.std.proofs.lemmas.List.{get_or-replicate, get_or_past, length-replicate, length-set}
use Rattle.road_pieces.specs.Rows.{stops}
use Rattle.edge_builder.specs.Groups.{places_of, no_place, LinksOn, AreGroups}

-- ---- what the places are

get_or_push_front : (ks : List ℕ) (p : ℕ) (ps : List ℕ) → get_or (ks ++ p ∷ ps) (length ks) 0 ≡ p
get_or_push_front [] p ps = refl
get_or_push_front (k ∷ ks) p ps = get_or_push_front ks p ps

-- a place from k on, where so many numbers stand
pub stops_inside : {A : Type 0} (test : A → Bool) (k : ℕ) (xs : List A) (i d : ℕ) → i < length (stops test k xs) → get_or (stops test k xs) i d < k + length xs
stops_inside test k [] i d h = absurd (omega (arith, h))
stops_inside test k (x ∷ xs) i d h = by (test x) h (stops_inside test (k + 1) xs)
  where
    by : (b : Bool) → i < length (cond b (k ∷ stops test (k + 1) xs) (stops test (k + 1) xs)) → ((j e : ℕ) → j < length (stops test (k + 1) xs) → get_or (stops test (k + 1) xs) j e < k + 1 + length xs) → get_or (cond b (k ∷ stops test (k + 1) xs) (stops test (k + 1) xs)) i d < k + length (x ∷ xs)
    by true l rest = head i l
      where
        head : (j : ℕ) → j < length (k ∷ stops test (k + 1) xs) → get_or (k ∷ stops test (k + 1) xs) j d < k + length (x ∷ xs)
        head zero m = omega arith
        head (suc j) m = let r = rest j d (omega (arith, m)) in omega (arith, r)
    by false l rest = let r = rest i d l in omega (arith, r)

pub stops_few : {A : Type 0} (test : A → Bool) (k : ℕ) (xs : List A) → length (stops test k xs) ≤ length xs
stops_few test k [] = omega arith
stops_few test k (x ∷ xs) = by (test x) (stops_few test (k + 1) xs)
  where
    by : (b : Bool) → length (stops test (k + 1) xs) ≤ length xs → length (cond b (k ∷ stops test (k + 1) xs) (stops test (k + 1) xs)) ≤ length (x ∷ xs)
    by true rest = omega (arith, rest)
    by false rest = omega (arith, rest)

-- ---- links

-- a new next place before the places doesn't matter to them
leads_kept : {A : Type 0} (test : A → Bool) (next : List ℕ) (i y k from : ℕ) (xs : List A) → i < k → LinksOn next from (stops test k xs) → LinksOn (set next i y) from (stops test k xs)
leads_kept test next i y k from [] h l = l
leads_kept test next i y k from (x ∷ xs) h l = by (test x) l (λ f. leads_kept test next i y (k + 1) f xs (omega (arith, h)))
  where
    by : (b : Bool) → LinksOn next from (cond b (k ∷ stops test (k + 1) xs) (stops test (k + 1) xs)) → ((f : ℕ) → LinksOn next f (stops test (k + 1) xs) → LinksOn (set next i y) f (stops test (k + 1) xs)) → LinksOn (set next i y) from (cond b (k ∷ stops test (k + 1) xs) (stops test (k + 1) xs))
    by true m rest = (m.0, subst (λ p. LinksOn (set next i y) p (stops test (k + 1) xs)) (sym (get_or-set_other next i k y no_place (λ e. absurd (omega (arith, h, e))))) (rest (get_or next k no_place) m.1))
    by false m rest = rest from m

-- the places from one on are linked
pub record AreLinked (numbers first next : List ℕ) (from bound : ℕ) : Type 0 where
  pub lead : (n : ℕ) → LinksOn next (get_or first n no_place) (stops (λ m. nat_eq m n) from (drop from numbers))
  pub lengths : length next ≡ length numbers
  pub firsts : length first ≡ bound

nowhere : (bound n : ℕ) → get_or (replicate bound no_place) n no_place ≡ no_place
nowhere bound n = elim (cases_order n bound) [
  | inl h ↦ get_or_past (replicate bound no_place) n no_place (omega (arith, length-replicate bound no_place, h))
  | inr other ↦ elim other [
    | inl h ↦ get_or-replicate bound n no_place no_place h
    | inr h ↦ get_or_past (replicate bound no_place) n no_place (omega (arith, length-replicate bound no_place, h))
  ]
]

pub none_linked : (numbers first next : List ℕ) (bound : ℕ) → first ≡ replicate bound no_place → length next ≡ length numbers → AreLinked numbers first next (length numbers) bound
none_linked numbers first next bound none e = record {
  lead = λ n. rw (drop_of_length-le numbers {i = length numbers} (omega arith), none) (nowhere bound n);
  lengths = e;
  firsts = rw none (length-replicate bound no_place);
}

pub one_linked : (numbers first next : List ℕ) (place m bound : ℕ) → place < length numbers → get_or numbers place 0 ≡ m → m < bound → AreLinked numbers first next (place + 1) bound → AreLinked numbers (set first m place) (set next place (get_or first m no_place)) place bound
one_linked numbers first next place m bound h e l linked = record {
  lead = λ n. subst (λ ns. LinksOn (set next place y) (get_or (set first m place) n no_place) (stops (λ k. nat_eq k n) place ns)) (sym split) (by n (nat_eq m n) refl);
  lengths = length-set next place y ∙ linked.lengths;
  firsts = length-set first m place ∙ linked.firsts;
}
  where
    rest : List ℕ
    rest = drop (place + 1) numbers

    y : ℕ
    y = get_or first m no_place

    split : drop place numbers ≡ m ∷ drop (place + 1) numbers
    split = drop-cons numbers place 0 h ∙ (ap (λ k. k ∷ drop (suc place) numbers) e ∙ ap (λ k. m ∷ drop k numbers) (sym (add-one place)))

    by : (n : ℕ) (b : Bool) → nat_eq m n ≡ b → LinksOn (set next place y) (get_or (set first m place) n no_place) (cond b (place ∷ stops (λ k. nat_eq k n) (place + 1) rest) (stops (λ k. nat_eq k n) (place + 1) rest))
    by n true q =
        let same : m ≡ n = eqb-true m n q in
        let was : LinksOn next y (stops (λ k. nat_eq k n) (place + 1) rest) = subst (λ k. LinksOn next (get_or first k no_place) (stops (λ j. nat_eq j n) (place + 1) rest)) (sym same) (linked.lead n) in (
          subst (λ k. get_or (set first m place) k no_place ≡ place) same (get_or-set_same first m place no_place (omega (arith, l, linked.firsts))),
          subst (λ f. LinksOn (set next place y) f (stops (λ k. nat_eq k n) (place + 1) rest)) (sym (get_or-set_same next place y no_place (omega (arith, h, linked.lengths)))) (leads_kept (λ k. nat_eq k n) next place y (place + 1) y rest (omega arith) was),
        )
    by n false q =
        let other : n ≢ m = λ same. both_ways (nat_eq m n) q (eq-eqb m n (sym same)) in
        subst (λ f. LinksOn (set next place y) f (stops (λ k. nat_eq k n) (place + 1) rest)) (sym (get_or-set_other first m n place no_place other)) (leads_kept (λ k. nat_eq k n) next place y (place + 1) (get_or first n no_place) rest (omega arith) (linked.lead n))

pub all_linked : (numbers first next : List ℕ) (bound : ℕ) → length numbers ≤ 10_000_000 → AreLinked numbers first next 0 bound → AreGroups numbers first next
all_linked numbers first next bound few linked = record { lead = linked.lead; lengths = linked.lengths; few = few }

-- ---- how links are followed

-- these places of a number were read, and the next one is to come
pub record IsRead (numbers next : List ℕ) (n at : ℕ) (places : List ℕ) : Type 0 where
  pub rest : List ℕ
  pub whole : places ++ rest ≡ places_of n numbers
  pub leads : LinksOn next at rest

pub none_read : (numbers first next : List ℕ) (n : ℕ) → AreGroups numbers first next → IsRead numbers next n (get_or first n no_place) []
none_read numbers first next n groups = record { rest = places_of n numbers; whole = refl; leads = groups.lead n }

pub one_read : (numbers next : List ℕ) (n at : ℕ) (places : List ℕ) → at ≢ no_place → IsRead numbers next n at places → IsRead numbers next n (get_or next at no_place) (places ++ at ∷ [])
one_read numbers next n at places here read = by read.rest read.whole read.leads
  where
    by : (rest : List ℕ) → places ++ rest ≡ places_of n numbers → LinksOn next at rest → IsRead numbers next n (get_or next at no_place) (places ++ at ∷ [])
    by [] w l = absurd (here l)
    by (p ∷ ps) w l = record {
      rest = ps;
      whole = append_assoc places (at ∷ []) ps ∙ (ap (λ k. places ++ k ∷ ps) l.0 ∙ w);
      leads = subst (λ k. LinksOn next (get_or next k no_place) ps) (sym l.0) l.1;
    }

pub read_inside : (numbers next : List ℕ) (n at : ℕ) (places : List ℕ) → at ≢ no_place → IsRead numbers next n at places → (at < length numbers) × (length places < length numbers)
read_inside numbers next n at places here read = by read.rest read.whole read.leads
  where
    by : (rest : List ℕ) → places ++ rest ≡ places_of n numbers → LinksOn next at rest → (at < length numbers) × (length places < length numbers)
    by [] w l = absurd (here l)
    by (p ∷ ps) w l =
        let long : length places + length (p ∷ ps) ≡ length (places_of n numbers) = sym (length-append places (p ∷ ps)) ∙ ap length w in
        let few : length (places_of n numbers) ≤ length numbers = stops_few (λ m. nat_eq m n) 0 numbers in
        let there : get_or (places_of n numbers) (length places) 0 ≡ p = ap (λ ks. get_or ks (length places) 0) (sym w) ∙ get_or_push_front places p ps in
        let low : get_or (places_of n numbers) (length places) 0 < 0 + length numbers = stops_inside (λ m. nat_eq m n) 0 numbers (length places) 0 (omega (arith, long)) in
        (omega (arith, l.0, there, low), omega (arith, long, few))

pub all_read : (numbers next : List ℕ) (n at : ℕ) (places : List ℕ) → length numbers ≤ 10_000_000 → at ≡ no_place → IsRead numbers next n at places → places ≡ places_of n numbers
all_read numbers next n at places few there read = by read.rest read.whole read.leads
  where
    by : (rest : List ℕ) → places ++ rest ≡ places_of n numbers → LinksOn next at rest → places ≡ places_of n numbers
    by [] w l = sym (append-nil places) ∙ w
    by (p ∷ ps) w l =
        let long : length places + length (p ∷ ps) ≡ length (places_of n numbers) = sym (length-append places (p ∷ ps)) ∙ ap length w in
        let here : get_or (places_of n numbers) (length places) 0 ≡ p = ap (λ ks. get_or ks (length places) 0) (sym w) ∙ get_or_push_front places p ps in
        let low : get_or (places_of n numbers) (length places) 0 < 0 + length numbers = stops_inside (λ m. nat_eq m n) 0 numbers (length places) 0 (omega (arith, long)) in
        absurd (omega (arith, l.0, here, low, few, there))

-- so many places of a number were read, and the next one is to come
pub record IsCounted (numbers next : List ℕ) (n at count : ℕ) : Type 0 where
  pub places : List ℕ
  pub read : IsRead numbers next n at places
  pub counted : length places ≡ count

pub none_counted : (numbers first next : List ℕ) (n : ℕ) → AreGroups numbers first next → IsCounted numbers next n (get_or first n no_place) 0
none_counted numbers first next n groups = record { places = []; read = none_read numbers first next n groups; counted = refl }

pub one_counted : (numbers next : List ℕ) (n at count : ℕ) → at ≢ no_place → IsCounted numbers next n at count → IsCounted numbers next n (get_or next at no_place) (count + 1)
one_counted numbers next n at count here c = record {
  places = c.places ++ at ∷ [];
  read = one_read numbers next n at c.places here c.read;
  counted = length-append c.places (at ∷ []) ∙ ap (λ k. k + 1) c.counted;
}

pub counted_inside : (numbers next : List ℕ) (n at count : ℕ) → at ≢ no_place → IsCounted numbers next n at count → (at < length numbers) × (count < length numbers)
counted_inside numbers next n at count here c =
    let inside = read_inside numbers next n at c.places here c.read in
    (inside.0, omega (arith, inside.1, c.counted))

pub all_counted : (numbers next : List ℕ) (n at count : ℕ) → length numbers ≤ 10_000_000 → at ≡ no_place → IsCounted numbers next n at count → count ≡ length (places_of n numbers)
all_counted numbers next n at count few there c = sym c.counted ∙ ap length (all_read numbers next n at c.places few there c.read)
