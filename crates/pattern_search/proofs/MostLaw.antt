-- The length of the longest word, counted up to a cap.
use Rattle.std.proofs.Common.{◌≡◌, refl, sym, ◌∙◌, ap, subst, ℕ, zero, suc, ◌≤◌, ◌<◌, Bool, true, false, cond, List, [], ◌∷◌, length, inl, inr, arith}
use Rattle.std.specs.Prelude.{◌⊎◌, nat_lt, nat_eq}
use Rattle.pattern_search.specs.declared.behind.Place.{Place}
use Rattle.pattern_search.specs.Most.{IsMost, one_longer, greater_of, IsAlong, most_along, BeginsWithOne, most_of_one, most_behind, all_behind, line_to, all_along}
use Rattle.std.proofs.lemmas.Bool.{ltb-true, ltb-false}

greater_is : (m n : ℕ) → ((greater_of m n ≡ m) × (n ≤ m)) ⊎ ((greater_of m n ≡ n) × (m ≤ n))
greater_is m n = by (nat_lt m n) refl
  where
    by : (b : Bool) → nat_lt m n ≡ b → ((greater_of m n ≡ m) × (n ≤ m)) ⊎ ((greater_of m n ≡ n) × (m ≤ n))
    by true t = let low : m < n = ltb-true m n t in inr (ap (λ b. cond b n m) t, omega (arith, low))
    by false t = let high : n ≤ m = ltb-false m n t in inl (ap (λ b. cond b n m) t, high)

pub none : {P : Type 0} (cap : ℕ) → IsMost {P = P} cap (λ w. ⊥) 0
none cap = record {
  long = λ w h. absurd h;
  few = λ low w h. absurd h;
  met = λ is. absurd (is refl);
}

module _ {P : Type 0} (cap : ℕ) where
  first_more : (A B : List P → Type 0) (m n : ℕ) → n ≤ m → IsMost cap A m → IsMost cap B n → IsMost cap (λ w. A w ⊎ B w) m
  first_more A B m n high a b = record {
    long = λ w h. elim h [
      | inl k ↦ a.long w k
      | inr k ↦ b.long w k
    ];
    few = λ low w h. elim h [
      | inl k ↦ a.few low w k
      | inr k ↦ (let short : length w ≤ n = b.few (omega (arith, low, high)) w k in omega (arith, short, high))
    ];
    met = λ is. let found = a.met is in (found.0, (inl found.1.0, found.1.1));
  }

  second_more : (A B : List P → Type 0) (m n : ℕ) → m ≤ n → IsMost cap A m → IsMost cap B n → IsMost cap (λ w. A w ⊎ B w) n
  second_more A B m n high a b = record {
    long = λ w h. elim h [
      | inl k ↦ a.long w k
      | inr k ↦ b.long w k
    ];
    few = λ low w h. elim h [
      | inl k ↦ (let short : length w ≤ m = a.few (omega (arith, low, high)) w k in omega (arith, short, high))
      | inr k ↦ b.few low w k
    ];
    met = λ is. let found = b.met is in (found.0, (inr found.1.0, found.1.1));
  }

  pub either : (A B : List P → Type 0) (m n : ℕ) → IsMost cap A m → IsMost cap B n → IsMost cap (λ w. A w ⊎ B w) (greater_of m n)
  either A B m n a b = elim (greater_is m n) [
    | inl both ↦ subst (IsMost cap (λ w. A w ⊎ B w)) (sym both.0) (first_more A B m n both.1 a b)
    | inr both ↦ subst (IsMost cap (λ w. A w ⊎ B w)) (sym both.0) (second_more A B m n both.1 a b)
  ]

  abbrev Begun : (List P → Type 0) → P → List P → Type 0
  Begun A q w = (v : List P) × ((w ≡ q ∷ v) × A v)

  begun_long : (A : List P → Type 0) (q : P) (w : List P) → Begun A q w → 0 < length w
  begun_long A q w h = subst (λ u. 0 < length u) (sym h.1.0) (omega arith)

  pub prefixed : 0 < cap → (A : List P → Type 0) (q : P) (n : ℕ) → IsMost cap A n → IsMost cap (Begun A q) (one_longer cap n)
  prefixed some A q zero a = record {
    long = begun_long A q;
    few = λ low w h. let short : length h.0 ≤ 0 = a.few some h.0 h.1.1 in let long : 0 < length h.0 = a.long h.0 h.1.1 in absurd (omega (arith, short, long));
    met = λ is. absurd (is refl);
  }
  prefixed some A q (suc k) a = by (nat_lt (suc k) cap) refl
    where
      by : (b : Bool) → nat_lt (suc k) cap ≡ b → IsMost cap (Begun A q) (cond b (suc (suc k)) cap)
      by true t =
          let below : suc k < cap = ltb-true (suc k) cap t in
          record {
            long = begun_long A q;
            few = λ low w h. let short : length h.0 ≤ suc k = a.few below h.0 h.1.1 in subst (λ u. length u ≤ suc (suc k)) (sym h.1.0) (omega (arith, short));
            met = λ is. let found = a.met (λ e. absurd (omega (arith, e))) in let long : suc k ≤ length found.0 = found.1.1 in (q ∷ found.0, ((found.0, (refl, found.1.0)), omega (arith, long)));
          }
      by false t =
          let above : cap ≤ suc k = ltb-false (suc k) cap t in
          record {
            long = begun_long A q;
            few = λ low w h. absurd (omega (arith, low));
            met = λ is. let found = a.met (λ e. absurd (omega (arith, e))) in let long : suc k ≤ length found.0 = found.1.1 in (q ∷ found.0, ((found.0, (refl, found.1.0)), omega (arith, long, above)));
          }

pub most_line : {P : Type 0} (cap : ℕ) → 0 < cap → (After : P → List P → Type 0) (e : P → ℕ) → ((p : P) → IsMost cap (After p) (e p)) → (p : P) (line : List P) → IsMost cap (IsAlong After p line) (most_along cap e p line)
most_line cap some After e is p [] = is p
most_line cap some After e is p (q ∷ qs) =
    either cap (After p) (Begun cap (IsAlong After q qs) q) (e p) (one_longer cap (most_along cap e q qs)) (is p) (prefixed cap some (IsAlong After q qs) q (most_along cap e q qs) (most_line cap some After e is q qs))

pub most_first : {P : Type 0} (cap : ℕ) → 0 < cap → (Is : P → List P → Type 0) (n : P → ℕ) → ((p : P) → IsMost cap (Is p) (n p)) → (list : List P) → IsMost cap (BeginsWithOne Is list) (most_of_one cap n list)
most_first cap some Is n is [] = none cap
most_first cap some Is n is (q ∷ qs) =
    either cap (Begun cap (Is q) q) (BeginsWithOne Is qs) (one_longer cap (n q)) (most_of_one cap n qs) (prefixed cap some (Is q) q (n q) (is q)) (most_first cap some Is n is qs)

greater_none : (m : ℕ) → greater_of m 0 ≡ m
greater_none m = elim (greater_is m 0) [
  | inl both ↦ both.0
  | inr both ↦ both.0 ∙ omega (arith, both.1)
]

-- the table is made place by place
behind_is : (cap : ℕ) (q p : Place) (qs : List Place) → most_behind cap q.run (most_along cap (λ q. q.after) q qs) p ≡ most_along cap (λ q. q.after) p (line_to p (q ∷ qs))
behind_is cap q p qs = by (nat_eq q.run p.run)
  where
    by : (b : Bool) → greater_of p.after (cond b (one_longer cap (most_along cap (λ q. q.after) q qs)) 0) ≡ most_along cap (λ q. q.after) p (cond b (q ∷ qs) [])
    by true = refl
    by false = greater_none p.after

pub table_is : (cap : ℕ) (q : Place) (qs ps : List Place) → all_behind cap q.run (most_along cap (λ q. q.after) q qs) ps ≡ all_along cap (q ∷ qs) ps
table_is cap q qs [] = refl
table_is cap q qs (p ∷ ps) =
    let same : most_behind cap q.run (most_along cap (λ q. q.after) q qs) p ≡ most_along cap (λ q. q.after) p (line_to p (q ∷ qs)) = behind_is cap q p qs in
    ap (λ m. m ∷ all_behind cap p.run m ps) same ∙ ap (λ l. most_along cap (λ q. q.after) p (line_to p (q ∷ qs)) ∷ l) (table_is cap p (line_to p (q ∷ qs)) ps)

-- a first place has nothing before it
pub table_begins : (cap run : ℕ) (ps : List Place) → all_behind cap run 0 ps ≡ all_along cap [] ps
table_begins cap run [] = refl
table_begins cap run (p ∷ ps) =
    let same : most_behind cap run 0 p ≡ p.after = by (nat_eq run p.run) in
    ap (λ m. m ∷ all_behind cap p.run m ps) same ∙ ap (λ l. p.after ∷ l) (table_is cap p [] ps)
  where
    by : (b : Bool) → greater_of p.after (cond b (one_longer cap 0) 0) ≡ p.after
    by true = greater_none p.after
    by false = greater_none p.after
