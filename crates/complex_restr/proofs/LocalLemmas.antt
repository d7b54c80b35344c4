-- Counting the codes that start at each junction.
use Rattle.std.proofs.Common.{◌≡◌, ℕ, zero, suc, ◌+◌, ◌<◌, ◌≤◌, sym, ◌∙◌, ap, subst, List, [], ◌∷◌, ◌++◌, length, get_or, set, take, replicate, Bool, cond, nat_eq, inl, inr, arith}
use Rattle.std.specs.List.{count_by}
use Rattle.std.proofs.lemmas.Bool.{eq-eqb, ne_eqb, cases_eq}
use Rattle.std.proofs.lemmas.List.{get_or_default, get_or-set_same, get_or-set_other, length-set, get_or-replicate, get_or_append_left, get_or_push, length_push}
use Rattle.std.proofs.lemmas.List.Sums.{count_by_more_yes, count_by_more_no, sum_by-cons}
use Rattle.complex_restr.specs.Locals.{code_local, AreCodeLocals, AreFewStarts}

-- a front has no more that pass
pub count_front : {A : Type 0} (p : A → Bool) (xs : List A) (i : ℕ) → count_by p (take i xs) ≤ count_by p xs
count_front p xs zero = omega arith
count_front p [] (suc i) = omega arith
count_front p (x ∷ xs) (suc i) =
    omega (arith, count_front p xs i, sum_by-cons (λ y. cond (p y) 1 0) x (take i xs), sum_by-cons (λ y. cond (p y) 1 0) x xs)

-- after so many codes: the counters, and the local indexes
pub record AreCounted (starts : List ℕ) (i : ℕ) (counts locals : List ℕ) : Type 0 where
  pub each : (n : ℕ) → n < length counts → get_or counts n 0 ≡ count_by (nat_eq n) (take i starts)
  pub all : length locals ≡ i
  pub indexes : (c : ℕ) → c < i → get_or locals c 0 ≡ code_local starts c

pub none_counted : (starts counts locals : List ℕ) → counts ≡ replicate (length counts) 0 → locals ≡ [] → AreCounted starts 0 counts locals
none_counted starts counts locals fresh none = record {
  each = λ n l. ap (λ m. get_or m n 0) fresh ∙ get_or-replicate (length counts) n 0 0 l;
  all = ap (λ m. length m) none;
  indexes = λ c l. absurd (omega (arith, l));
}

-- there is room for one more
pub room_left : (starts counts locals : List ℕ) (i junction d : ℕ) → AreFewStarts (length counts) starts → AreCounted starts i counts locals → i < length starts → get_or starts i d ≡ junction → (junction < length counts) × (get_or counts junction 0 < 255)
room_left starts counts locals i junction d few are inside is =
    let low : junction < length counts = subst (λ n. n < length counts) is (few.inside i d inside) in
    let more = count_by_more_yes (nat_eq junction) starts i d inside (eq-eqb junction (get_or starts i d) (sym is)) in
    let front = count_front (nat_eq junction) starts (i + 1) in
    let most = few.few junction in
    (low, omega (arith, more, front, most, are.each junction low))

pub one_counted : (starts counts counts' locals locals' : List ℕ) (i junction d : ℕ) → AreCounted starts i counts locals → i < length starts → get_or starts i d ≡ junction → counts' ≡ set counts junction (get_or counts junction 0 + 1) → junction < length counts → locals' ≡ locals ++ get_or counts junction 0 ∷ [] → AreCounted starts (i + 1) counts' locals'
one_counted starts counts counts' locals locals' i junction d are inside is after low pushed = record {
  each = λ n l.
      let within : n < length counts = omega (arith, l, ap length after, length-set counts junction (get_or counts junction 0 + 1)) in
      ap (λ m. get_or m n 0) after ∙ elim (cases_eq n junction) [
        | inl same ↦
            ap (λ m. get_or (set counts junction (get_or counts junction 0 + 1)) m 0) same ∙ (get_or-set_same counts junction (get_or counts junction 0 + 1) 0 low
            ∙ (ap (λ m. m + 1) (are.each junction low) ∙ (sym (count_by_more_yes (nat_eq junction) starts i d inside (eq-eqb junction (get_or starts i d) (sym is)))
            ∙ ap (λ m. count_by (nat_eq m) (take (i + 1) starts)) (sym same))))
        | inr differs ↦
            get_or-set_other counts junction n (get_or counts junction 0 + 1) 0 differs
            ∙ (are.each n within ∙ sym (count_by_more_no (nat_eq n) starts i d inside (ne_eqb n (get_or starts i d) (λ e. differs (e ∙ is)))))
      ];
  all = ap length pushed ∙ (length_push locals (get_or counts junction 0) ∙ ap (λ n. n + 1) are.all);
  indexes = λ c l. ap (λ m. get_or m c 0) pushed ∙ elim (cases_eq c i) [
    | inl last ↦
        get_or_push locals (get_or counts junction 0) 0 c (are.all ∙ sym last) ∙ (are.each junction low
        ∙ λ j. count_by (nat_eq (here c last j)) (take (last_is c last j) starts))
    | inr before ↦ get_or_append_left locals (get_or counts junction 0 ∷ []) 0 c (omega (arith, l, before, are.all)) ∙ are.indexes c (omega (arith, l, before))
  ];
}
  where
    here : (c : ℕ) → c ≡ i → junction ≡ get_or starts c 0
    here c last = sym is ∙ (get_or_default starts i d 0 inside ∙ ap (λ k. get_or starts k 0) (sym last))

    last_is : (c : ℕ) → c ≡ i → i ≡ c
    last_is c last = sym last

pub counted_all : (starts counts locals : List ℕ) → AreCounted starts (length starts) counts locals → AreCodeLocals starts locals
counted_all starts counts locals are = record { all = are.all; each = are.indexes }
