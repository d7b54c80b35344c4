-- Elements that have a number of their own, in order of it.
use Rattle.std.proofs.Common.{◌≡◌, ℕ, suc, ◌+◌, ◌≤◌, ◌≢◌, Bool, true, false, ℤ, List, [], ◌∷◌, length, map, drop, get_or, refl, sym, ap, subst, ◌∙◌, arith, cond, inl, inr}
use Rattle.std.specs.Prelude.{⊤, ◌⊎◌, int_lt, sum_by}
use Rattle.std.specs.Int.{from_bool}
use Rattle.std.specs.Ordering.{int_eq}
use Rattle.std.specs.Cmp.{signed_Decides}
use Rattle.std.proofs.lemmas.List.Sums.{sum_by-cons}
use Rattle.road_pieces.specs.Among.{Once}
use Rattle.road_pieces.proofs.Members.{IsIn, in_map, of_map, in_from_among, among_from_in}
use Rattle.road_walks.specs.Orders.{put_in, rising}
use Rattle.road_walks.proofs.Sorted.{Sorted, in_rising, of_rising, rising_sorted, one_sorted, nodes_connected, node_never, node_on}

-- numbers that never fall, and numbers each above those before it
abbrev pub NeverFalls : List ℤ → Type 0
NeverFalls [] = ⊤
NeverFalls (n ∷ ns) = ((m : ℤ) → IsIn ns m → int_lt m n ≡ false) × NeverFalls ns

abbrev pub Ascends : List ℤ → Type 0
Ascends ns = Sorted int_lt nodes_connected node_never node_on ns

-- numbers that never fall, each once, ascend
pub ascends : (ns : List ℤ) → NeverFalls ns → Once ns → Ascends ns
ascends [] h once = tt
ascends (n ∷ ns) h once = (λ m k. above m k (int_lt n m) refl, ascends ns h.1 once.1)
  where
    above : (m : ℤ) → IsIn ns m → (t : Bool) → int_lt n m ≡ t → int_lt n m ≡ true
    above m k true e = e
    above m k false e = absurd (once.0 (among_from_in ns n (subst (IsIn ns) (sym (nodes_connected n m e (h.0 m k))) k)))

module _ {E : Type 0} (key : E → ℤ) where
  -- how often a number stands there
  abbrev pub times : ℤ → List E → ℕ
  times n es = sum_by (λ e. from_bool (int_eq (key e) n)) es

  pub times_cons : (n : ℤ) (e : E) (es : List E) → times n (e ∷ es) ≡ from_bool (int_eq (key e) n) + times n es
  times_cons n e es = sum_by-cons (λ d. from_bool (int_eq (key d) n)) e es

  its_number : (e d : E) → key d ≡ key e → from_bool (int_eq (key d) (key e)) ≡ 1
  its_number e d same = ap from_bool ((signed_Decides (key d) (key e)).1 same)

  times_some : (es : List E) (e : E) → IsIn es e → 1 ≤ times (key e) es
  times_some [] e h = absurd h
  times_some (d ∷ es) e (inl is) = omega (arith, times_cons (key e) d es, its_number e d (ap key is))
  times_some (d ∷ es) e (inr h) = omega (arith, times_cons (key e) d es, times_some es e h)

  times_none : (es : List E) (n : ℤ) → ((e : E) → IsIn es e → key e ≢ n) → times n es ≡ 0
  times_none [] n none = refl
  times_none (e ∷ es) n none = by (int_eq (key e) n) refl (times_none es n (λ d k. none d (inr k)))
    where
      by : (t : Bool) → int_eq (key e) n ≡ t → times n es ≡ 0 → times n (e ∷ es) ≡ 0
      by true h rest = absurd (none e (inl refl) ((signed_Decides (key e) n).0 h))
      by false h rest = omega (arith, times_cons n e es, ap from_bool h, rest)

  pub once_of_times : (es : List E) → ((n : ℤ) → times n es ≤ 1) → Once (map key es)
  once_of_times [] few = tt
  once_of_times (e ∷ es) few = (
    λ h. let (d, (is, same)) = of_map key es (key e) (in_from_among (map key es) (key e) h) in
        let some : 1 ≤ times (key e) es = subst (λ n. 1 ≤ times n es) same (times_some es d is) in
        omega (arith, few (key e), some, times_cons (key e) e es, its_number e e refl),
    once_of_times es (λ n. omega (arith, few n, times_cons n e es)),
  )

  pub times_of_once : (es : List E) → Once (map key es) → (n : ℤ) → times n es ≤ 1
  times_of_once [] once n = omega arith
  times_of_once (e ∷ es) once n = by (int_eq (key e) n) refl (times_of_once es once.1 n)
    where
      by : (t : Bool) → int_eq (key e) n ≡ t → times n es ≤ 1 → times n (e ∷ es) ≤ 1
      by true h few =
          let none : times n es ≡ 0 = times_none es n (λ d k same. once.0 (among_from_in (map key es) (key e) (subst (IsIn (map key es)) (same ∙ sym ((signed_Decides (key e) n).0 h)) (in_map key es d k)))) in
          omega (arith, times_cons n e es, ap from_bool h, none)
      by false h few = omega (arith, times_cons n e es, ap from_bool h, few)

  -- the number tells the element
  pub own_element : (es : List E) → Once (map key es) → (e f : E) → IsIn es e → IsIn es f → key e ≡ key f → e ≡ f
  own_element [] once e f h k same = absurd h
  own_element (d ∷ es) once e f (inl p) (inl q) same = sym p ∙ q
  own_element (d ∷ es) once e f (inl p) (inr q) same = absurd (once.0 (among_from_in (map key es) (key d) (subst (IsIn (map key es)) (sym same ∙ ap key (sym p)) (in_map key es f q))))
  own_element (d ∷ es) once e f (inr p) (inl q) same = absurd (once.0 (among_from_in (map key es) (key d) (subst (IsIn (map key es)) (same ∙ ap key (sym q)) (in_map key es e p))))
  own_element (d ∷ es) once e f (inr p) (inr q) same = own_element es once.1 e f p q same

  -- ---- in rising order

  abbrev pub key_less : E → E → Bool
  key_less e f = int_lt (key e) (key f)

  keys_put : (e : E) (es : List E) → map key (put_in key_less e es) ≡ put_in int_lt (key e) (map key es)
  keys_put e [] = refl
  keys_put e (f ∷ es) = by (int_lt (key e) (key f)) (int_lt (key f) (key e)) (keys_put e es)
    where
      by : (a b : Bool) → map key (put_in key_less e es) ≡ put_in int_lt (key e) (map key es)
          → map key (cond a (e ∷ (f ∷ es)) (cond b (f ∷ put_in key_less e es) (f ∷ es))) ≡ cond a (key e ∷ (key f ∷ map key es)) (cond b (key f ∷ put_in int_lt (key e) (map key es)) (key f ∷ map key es))
      by true b rest = refl
      by false true rest = ap (λ l. key f ∷ l) rest
      by false false rest = refl

  keys_rising : (es : List E) → map key (rising key_less es) ≡ rising int_lt (map key es)
  keys_rising [] = refl
  keys_rising (e ∷ es) = keys_put e (rising key_less es) ∙ ap (put_in int_lt (key e)) (keys_rising es)

  from_put : (e g : E) (es : List E) → IsIn (put_in key_less g es) e → (g ≡ e) ⊎ IsIn es e
  from_put e g [] h = h
  from_put e g (f ∷ es) h = by (key_less g f) (key_less f g) h (from_put e g es)
    where
      by : (a b : Bool) → IsIn (cond a (g ∷ (f ∷ es)) (cond b (f ∷ put_in key_less g es) (f ∷ es))) e → (IsIn (put_in key_less g es) e → (g ≡ e) ⊎ IsIn es e) → (g ≡ e) ⊎ IsIn (f ∷ es) e
      by true b h rest = h
      by false true (inl is) rest = inr (inl is)
      by false true (inr k) rest = elim (rest k) [ inl is ↦ inl is | inr there ↦ inr (inr there) ]
      by false false k rest = inr k

  from_rising : (es : List E) (e : E) → IsIn (rising key_less es) e → IsIn es e
  from_rising [] e h = h
  from_rising (f ∷ es) e h = elim (from_put e f (rising key_less es) h) [ inl is ↦ inl is | inr there ↦ inr (from_rising es e there) ]

  same_by_keys : (bs : List E) → Once (map key bs) → (ds cs : List E) → ((e : E) → IsIn ds e → IsIn bs e) → ((e : E) → IsIn cs e → IsIn bs e) → map key ds ≡ map key cs → ds ≡ cs
  same_by_keys bs once [] [] a c same = refl
  same_by_keys bs once [] (e ∷ cs) a c same = let long : 0 ≡ suc (length (map key cs)) = ap (λ l. length l) same in absurd (omega (arith, long))
  same_by_keys bs once (e ∷ ds) [] a c same = let long : suc (length (map key ds)) ≡ 0 = ap (λ l. length l) same in absurd (omega (arith, long))
  same_by_keys bs once (e ∷ ds) (f ∷ cs) a c same =
      let first : key e ≡ key f = ap (λ l. get_or l 0 (key e)) same in
      let rest : map key ds ≡ map key cs = ap (λ l. drop 1 l) same in
      let one : e ≡ f = own_element bs once e f (a e (inl refl)) (c f (inl refl)) first in
      ap (λ d. d ∷ ds) one ∙ ap (λ l. f ∷ l) (same_by_keys bs once ds cs (λ d h. a d (inr h)) (λ d h. c d (inr h)) rest)

  -- what ascends and has the same elements is the list of them in rising order
  pub rising_is : (ds bs : List E) → Once (map key bs) → Ascends (map key ds) → ((e : E) → IsIn ds e → IsIn bs e) → ((e : E) → IsIn bs e → IsIn ds e) → ds ≡ rising key_less bs
  rising_is ds bs once up to back =
      same_by_keys bs once ds (rising key_less bs) to (from_rising bs)
      (one_sorted int_lt nodes_connected node_never node_on (map key ds) (rising int_lt (map key bs)) up
      (rising_sorted int_lt nodes_connected node_never node_on (map key bs))
      (λ n h. let (e, (is, same)) = of_map key ds n h in in_rising int_lt nodes_connected (map key bs) n (subst (IsIn (map key bs)) same (in_map key bs e (to e is))))
      (λ n h. let (e, (is, same)) = of_map key bs n (of_rising int_lt nodes_connected (map key bs) n h) in subst (IsIn (map key ds)) same (in_map key ds e (back e is)))
      ∙ sym (keys_rising bs))
