-- The places of numbers: how links to them are made, and how they are followed.
use Rattle.std.proofs.Common.{◌≡◌, ◌≢◌, ℕ, zero, suc, ◌+◌, ◌<◌, ◌≤◌, refl, sym, ◌∙◌, ap, subst, List, [], ◌∷◌, ◌++◌, length, get_or, set, drop, replicate, Bool, true, false, cond, nat_eq, arith, inl, inr, get_or-set_same, get_or-set_other, drop-cons, drop_of_length-le, length-append, append_assoc, append-nil, add-one, eq-eqb, eqb-true}
use Rattle.std.proofs.lemmas.Bool.{both_ways, cases_order}
use Rattle.std.proofs.lemmas.List.{get_or-replicate, get_or_past, length-replicate, length-set}
use Rattle.number_index.specs.Links.{no_place, LinksOn, AreLinks}
use Rattle.number_index.specs.Standing.{stands_at, stands_from}

-- ---- what the places are

get_or_push_front : (ks : List ℕ) (p : ℕ) (ps : List ℕ) → get_or (ks ++ p ∷ ps) (length ks) 0 ≡ p
get_or_push_front [] p ps = refl
get_or_push_front (k ∷ ks) p ps = get_or_push_front ks p ps

-- a place from k on, where so many numbers stand
pub stands_inside : (n k : ℕ) (xs : List ℕ) (i d : ℕ) → i < length (stands_from n k xs) → get_or (stands_from n k xs) i d < k + length xs
stands_inside n k [] i d h = absurd (omega (arith, h))
stands_inside n k (x ∷ xs) i d h = by (nat_eq x n) h (stands_inside n (k + 1) xs)
  where
    by : (b : Bool) → i < length (cond b (k ∷ stands_from n (k + 1) xs) (stands_from n (k + 1) xs)) → ((j e : ℕ) → j < length (stands_from n (k + 1) xs) → get_or (stands_from n (k + 1) xs) j e < k + 1 + length xs) → get_or (cond b (k ∷ stands_from n (k + 1) xs) (stands_from n (k + 1) xs)) i d < k + length (x ∷ xs)
    by true l rest = head i l
      where
        head : (j : ℕ) → j < length (k ∷ stands_from n (k + 1) xs) → get_or (k ∷ stands_from n (k + 1) xs) j d < k + length (x ∷ xs)
        head zero m = omega arith
        head (suc j) m = let r = rest j d (omega (arith, m)) in omega (arith, r)
    by false l rest = let r = rest i d l in omega (arith, r)

pub stands_few : (n k : ℕ) (xs : List ℕ) → length (stands_from n k xs) ≤ length xs
stands_few n k [] = omega arith
stands_few n k (x ∷ xs) = by (nat_eq x n) (stands_few n (k + 1) xs)
  where
    by : (b : Bool) → length (stands_from n (k + 1) xs) ≤ length xs → length (cond b (k ∷ stands_from n (k + 1) xs) (stands_from n (k + 1) xs)) ≤ length (x ∷ xs)
    by true rest = omega (arith, rest)
    by false rest = omega (arith, rest)

-- ---- links

-- a new next place before the places doesn't matter to them
leads_kept : (n : ℕ) (next : List ℕ) (i y k from : ℕ) (xs : List ℕ) → i < k → LinksOn next from (stands_from n k xs) → LinksOn (set next i y) from (stands_from n k xs)
leads_kept n next i y k from [] h l = l
leads_kept n next i y k from (x ∷ xs) h l = by (nat_eq x n) l (λ f. leads_kept n next i y (k + 1) f xs (omega (arith, h)))
  where
    by : (b : Bool) → LinksOn next from (cond b (k ∷ stands_from n (k + 1) xs) (stands_from n (k + 1) xs)) → ((f : ℕ) → LinksOn next f (stands_from n (k + 1) xs) → LinksOn (set next i y) f (stands_from n (k + 1) xs)) → LinksOn (set next i y) from (cond b (k ∷ stands_from n (k + 1) xs) (stands_from n (k + 1) xs))
    by true m rest = (m.0, subst (λ p. LinksOn (set next i y) p (stands_from n (k + 1) xs)) (sym (get_or-set_other next i k y no_place (λ e. absurd (omega (arith, h, e))))) (rest (get_or next k no_place) m.1))
    by false m rest = rest from m

-- the places from one on are linked
pub record AreLinked (numbers first next : List ℕ) (from bound : ℕ) : Type 0 where
  pub lead : (n : ℕ) → LinksOn next (get_or first n no_place) (stands_from n from (drop from numbers))
  pub lengths : length next ≡ length numbers
  pub firsts : length first ≡ bound

nowhere : (bound n : ℕ) → get_or (replicate bound no_place) n no_place ≡ no_place
nowhere bound n = elim (cases_order n bound) [
  | inl h ↦ get_or_past (replicate bound no_place) n no_place (omega (arith, length-replicate bound no_place, h))
  | inr other ↦ elim other [
    | inl h ↦ get_or-replicate bound n no_place no_place h
    | inr h ↦ get_or_past (replicate bound no_place) n no_place (omega (arith, length-replicate bound no_place, h))
  ]
]

pub none_linked : (numbers first next : List ℕ) (bound : ℕ) → first ≡ replicate bound no_place → length next ≡ length numbers → AreLinked numbers first next (length numbers) bound
none_linked numbers first next bound none e = record {
  lead = λ n. rw (drop_of_length-le numbers {i = length numbers} (omega arith), none) (nowhere bound n);
  lengths = e;
  firsts = rw none (length-replicate bound no_place);
}

pub one_linked : (numbers first next : List ℕ) (place m bound : ℕ) → place < length numbers → get_or numbers place 0 ≡ m → m < bound → AreLinked numbers first next (place + 1) bound → AreLinked numbers (set first m place) (set next place (get_or first m no_place)) place bound
one_linked numbers first next place m bound h e l linked = record {
  lead = λ n. subst (λ ns. LinksOn (set next place y) (get_or (set first m place) n no_place) (stands_from n place ns)) (sym split) (by n (nat_eq m n) refl);
  lengths = length-set next place y ∙ linked.lengths;
  firsts = length-set first m place ∙ linked.firsts;
}
  where
    rest : List ℕ
    rest = drop (place + 1) numbers

    y : ℕ
    y = get_or first m no_place

    split : drop place numbers ≡ m ∷ drop (place + 1) numbers
    split = drop-cons numbers place 0 h ∙ (ap (λ k. k ∷ drop (suc place) numbers) e ∙ ap (λ k. m ∷ drop k numbers) (sym (add-one place)))

    by : (n : ℕ) (b : Bool) → nat_eq m n ≡ b → LinksOn (set next place y) (get_or (set first m place) n no_place) (cond b (place ∷ stands_from n (place + 1) rest) (stands_from n (place + 1) rest))
    by n true q =
        let same : m ≡ n = eqb-true m n q in
        let was : LinksOn next y (stands_from n (place + 1) rest) = subst (λ k. LinksOn next (get_or first k no_place) (stands_from n (place + 1) rest)) (sym same) (linked.lead n) in (
          subst (λ k. get_or (set first m place) k no_place ≡ place) same (get_or-set_same first m place no_place (omega (arith, l, linked.firsts))),
          subst (λ f. LinksOn (set next place y) f (stands_from n (place + 1) rest)) (sym (get_or-set_same next place y no_place (omega (arith, h, linked.lengths)))) (leads_kept n next place y (place + 1) y rest (omega arith) was),
        )
    by n false q =
        let other : n ≢ m = λ same. both_ways (nat_eq m n) q (eq-eqb m n (sym same)) in
        subst (λ f. LinksOn (set next place y) f (stands_from n (place + 1) rest)) (sym (get_or-set_other first m n place no_place other)) (leads_kept n next place y (place + 1) (get_or first n no_place) rest (omega arith) (linked.lead n))

pub all_linked : (numbers first next : List ℕ) (bound : ℕ) → length numbers ≤ 10_000_000 → AreLinked numbers first next 0 bound → AreLinks numbers first next
all_linked numbers first next bound few linked = record { lead = linked.lead; lengths = linked.lengths; few = few }

-- ---- how links are followed

-- these places of a number were read, and the next one is to come
pub record IsRead (numbers next : List ℕ) (n at : ℕ) (places : List ℕ) : Type 0 where
  pub rest : List ℕ
  pub whole : places ++ rest ≡ stands_at n numbers
  pub leads : LinksOn next at rest

pub none_read : (numbers first next : List ℕ) (n : ℕ) → AreLinks numbers first next → IsRead numbers next n (get_or first n no_place) []
none_read numbers first next n groups = record { rest = stands_at n numbers; whole = refl; leads = groups.lead n }

pub one_read : (numbers next : List ℕ) (n at : ℕ) (places : List ℕ) → at ≢ no_place → IsRead numbers next n at places → IsRead numbers next n (get_or next at no_place) (places ++ at ∷ [])
one_read numbers next n at places here read = by read.rest read.whole read.leads
  where
    by : (rest : List ℕ) → places ++ rest ≡ stands_at n numbers → LinksOn next at rest → IsRead numbers next n (get_or next at no_place) (places ++ at ∷ [])
    by [] w l = absurd (here l)
    by (p ∷ ps) w l = record {
      rest = ps;
      whole = append_assoc places (at ∷ []) ps ∙ (ap (λ k. places ++ k ∷ ps) l.0 ∙ w);
      leads = subst (λ k. LinksOn next (get_or next k no_place) ps) (sym l.0) l.1;
    }

pub read_inside : (numbers next : List ℕ) (n at : ℕ) (places : List ℕ) → at ≢ no_place → IsRead numbers next n at places → (at < length numbers) × (length places < length numbers)
read_inside numbers next n at places here read = by read.rest read.whole read.leads
  where
    by : (rest : List ℕ) → places ++ rest ≡ stands_at n numbers → LinksOn next at rest → (at < length numbers) × (length places < length numbers)
    by [] w l = absurd (here l)
    by (p ∷ ps) w l =
        let long : length places + length (p ∷ ps) ≡ length (stands_at n numbers) = sym (length-append places (p ∷ ps)) ∙ ap length w in
        let few : length (stands_at n numbers) ≤ length numbers = stands_few n 0 numbers in
        let there : get_or (stands_at n numbers) (length places) 0 ≡ p = ap (λ ks. get_or ks (length places) 0) (sym w) ∙ get_or_push_front places p ps in
        let low : get_or (stands_at n numbers) (length places) 0 < 0 + length numbers = stands_inside n 0 numbers (length places) 0 (omega (arith, long)) in
        (omega (arith, l.0, there, low), omega (arith, long, few))

pub all_read : (numbers next : List ℕ) (n at : ℕ) (places : List ℕ) → length numbers ≤ 10_000_000 → at ≡ no_place → IsRead numbers next n at places → places ≡ stands_at n numbers
all_read numbers next n at places few there read = by read.rest read.whole read.leads
  where
    by : (rest : List ℕ) → places ++ rest ≡ stands_at n numbers → LinksOn next at rest → places ≡ stands_at n numbers
    by [] w l = sym (append-nil places) ∙ w
    by (p ∷ ps) w l =
        let long : length places + length (p ∷ ps) ≡ length (stands_at n numbers) = sym (length-append places (p ∷ ps)) ∙ ap length w in
        let here : get_or (stands_at n numbers) (length places) 0 ≡ p = ap (λ ks. get_or ks (length places) 0) (sym w) ∙ get_or_push_front places p ps in
        let low : get_or (stands_at n numbers) (length places) 0 < 0 + length numbers = stands_inside n 0 numbers (length places) 0 (omega (arith, long)) in
        absurd (omega (arith, l.0, here, low, few, there))

-- the places that were read stand behind those that were there before
pub record IsAppended (numbers next : List ℕ) (n at : ℕ) (before now : List ℕ) : Type 0 where
  pub new : List ℕ
  pub is : now ≡ before ++ new
  pub read : IsRead numbers next n at new

pub none_appended : (numbers first next : List ℕ) (n : ℕ) (before : List ℕ) → AreLinks numbers first next → IsAppended numbers next n (get_or first n no_place) before before
none_appended numbers first next n before links = record { new = []; is = sym (append-nil before); read = none_read numbers first next n links }

pub one_appended : (numbers next : List ℕ) (n at : ℕ) (before now : List ℕ) → at ≢ no_place → IsAppended numbers next n at before now → IsAppended numbers next n (get_or next at no_place) before (now ++ at ∷ [])
one_appended numbers next n at before now here a = record {
  new = a.new ++ at ∷ [];
  is = ap (λ l. l ++ at ∷ []) a.is ∙ append_assoc before a.new (at ∷ []);
  read = one_read numbers next n at a.new here a.read;
}

pub appended_inside : (numbers next : List ℕ) (n at : ℕ) (before now : List ℕ) → at ≢ no_place → IsAppended numbers next n at before now → (at < length numbers) × (length now < length before + length numbers)
appended_inside numbers next n at before now here a =
    let inside = read_inside numbers next n at a.new here a.read in
    let size : length now ≡ length before + length a.new = ap length a.is ∙ length-append before a.new in
    (inside.0, omega (arith, inside.1, size))

pub all_appended : (numbers next : List ℕ) (n at : ℕ) (before now : List ℕ) → length numbers ≤ 10_000_000 → at ≡ no_place → IsAppended numbers next n at before now → now ≡ before ++ stands_at n numbers
all_appended numbers next n at before now few there a = a.is ∙ ap (λ l. before ++ l) (all_read numbers next n at a.new few there a.read)
