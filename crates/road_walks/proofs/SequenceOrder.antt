-- The order of sequences is strict, and a rising list is the only one with its elements.
use Rattle.std.proofs.Common.{◌≡◌, ℕ, refl, sym, ◌∙◌, ap, subst, List, [], ◌∷◌, Bool, true, false, inl, inr}
use Rattle.std.specs.Prelude.{◌&&◌, nat_eq, nat_lt}
use Rattle.std.specs.List.{list_any}
use Rattle.std.proofs.lemmas.Bool.{both_ways, and_parts, or_cases, or_left, or_right, eqb-true}
use Rattle.road_pieces.proofs.Members.{IsIn}
use Rattle.road_walks.specs.Orders.{rising, list_less, same_numbers, sequence_below}
use Rattle.road_walks.proofs.Locals.{and_both}
use Rattle.road_walks.proofs.Sorted.{any_in, of_any, in_rising, of_rising, one_sorted, rising_sorted, below_self, below_on}

same_is : (ns ms : List ℕ) → same_numbers ns ms ≡ true → ns ≡ ms
same_is [] [] h = refl
same_is [] (m ∷ ms) h = absurd (both_ways false refl h)
same_is (n ∷ ns) [] h = absurd (both_ways false refl h)
same_is (n ∷ ns) (m ∷ ms) h =
    let (here, rest) = and_parts (nat_eq n m) (same_numbers ns ms) h in
    ap (λ k. k ∷ ns) (eqb-true n m here) ∙ ap (λ l. m ∷ l) (same_is ns ms rest)

list_never : (ns : List ℕ) → list_less ns ns ≡ true → ⊥
list_never [] h = both_ways false refl h
list_never (n ∷ ns) h =
    elim (or_cases (nat_lt n n) (nat_eq n n && list_less ns ns) h) [
      | inl low ↦ below_self n low
      | inr later ↦ list_never ns ((and_parts (nat_eq n n) (list_less ns ns) later).1)
    ]

list_on : (ns ms ls : List ℕ) → list_less ns ms ≡ true → list_less ms ls ≡ true → list_less ns ls ≡ true
list_on [] [] ls h k = absurd (both_ways false refl h)
list_on [] (m ∷ ms) [] h k = absurd (both_ways false refl k)
list_on [] (m ∷ ms) (l ∷ ls) h k = refl
list_on (n ∷ ns) [] ls h k = absurd (both_ways false refl h)
list_on (n ∷ ns) (m ∷ ms) [] h k = absurd (both_ways false refl k)
list_on (n ∷ ns) (m ∷ ms) (l ∷ ls) h k =
    elim (or_cases (nat_lt n m) (nat_eq n m && list_less ns ms) h) [
      | inl low ↦ elim (or_cases (nat_lt m l) (nat_eq m l && list_less ms ls) k) [
        | inl high ↦ or_left _ _ (below_on n m l low high)
        | inr later ↦ or_left _ _ (subst (λ j. nat_lt n j ≡ true) (eqb-true m l (and_parts (nat_eq m l) (list_less ms ls) later).0) low)
      ]
      | inr first ↦ elim (or_cases (nat_lt m l) (nat_eq m l && list_less ms ls) k) [
        | inl high ↦ or_left _ _ (subst (λ j. nat_lt j l ≡ true) (sym (eqb-true n m (and_parts (nat_eq n m) (list_less ns ms) first).0)) high)
        | inr later ↦
            let one = and_parts (nat_eq n m) (list_less ns ms) first in
            let two = and_parts (nat_eq m l) (list_less ms ls) later in
            or_right _ _ (and_both (nat_eq n l) (list_less ns ls) (subst (λ j. nat_eq j l ≡ true) (sym (eqb-true n m one.0)) two.0) (list_on ns ms ls one.1 two.1))
      ]
    ]

pub sequence_never : (s : List ℕ × ℕ) → sequence_below s s ≡ true → ⊥
sequence_never s h =
    elim (or_cases (list_less s.0 s.0) (same_numbers s.0 s.0 && nat_lt s.1 s.1) h) [
      | inl low ↦ list_never s.0 low
      | inr later ↦ below_self s.1 ((and_parts (same_numbers s.0 s.0) (nat_lt s.1 s.1) later).1)
    ]

pub sequence_on : (s t u : List ℕ × ℕ) → sequence_below s t ≡ true → sequence_below t u ≡ true → sequence_below s u ≡ true
sequence_on s t u h k =
    elim (or_cases (list_less s.0 t.0) (same_numbers s.0 t.0 && nat_lt s.1 t.1) h) [
      | inl low ↦ elim (or_cases (list_less t.0 u.0) (same_numbers t.0 u.0 && nat_lt t.1 u.1) k) [
        | inl high ↦ or_left _ _ (list_on s.0 t.0 u.0 low high)
        | inr later ↦ or_left _ _ (subst (λ l. list_less s.0 l ≡ true) (same_is t.0 u.0 (and_parts (same_numbers t.0 u.0) (nat_lt t.1 u.1) later).0) low)
      ]
      | inr first ↦ elim (or_cases (list_less t.0 u.0) (same_numbers t.0 u.0 && nat_lt t.1 u.1) k) [
        | inl high ↦ or_left _ _ (subst (λ l. list_less l u.0 ≡ true) (sym (same_is s.0 t.0 (and_parts (same_numbers s.0 t.0) (nat_lt s.1 t.1) first).0)) high)
        | inr later ↦
            let one = and_parts (same_numbers s.0 t.0) (nat_lt s.1 t.1) first in
            let two = and_parts (same_numbers t.0 u.0) (nat_lt t.1 u.1) later in
            or_right _ _ (and_both (same_numbers s.0 u.0) (nat_lt s.1 u.1) (subst (λ l. same_numbers l u.0 ≡ true) (sym (same_is s.0 t.0 one.0)) two.0) (below_on s.1 t.1 u.1 one.1 two.1))
      ]
    ]

-- lists with the same elements rise to one list
pub same_rising : {E : Type 0} (less : E → E → Bool) (connected : (e f : E) → less e f ≡ false → less f e ≡ false → e ≡ f) (never : (e : E) → less e e ≡ true → ⊥) (on : (e f g : E) → less e f ≡ true → less f g ≡ true → less e g ≡ true) (es fs : List E) → ((g : E) → IsIn es g → IsIn fs g) → ((g : E) → IsIn fs g → IsIn es g) → rising less es ≡ rising less fs
same_rising less connected never on es fs to from =
    one_sorted less connected never on (rising less es) (rising less fs) (rising_sorted less connected never on es) (rising_sorted less connected never on fs)
    (λ g h. in_rising less connected fs g (to g (of_rising less connected es g h)))
    (λ g h. in_rising less connected es g (from g (of_rising less connected fs g h)))

-- two answers that are true together are equal
pub same_answers : (p q : Bool) → (p ≡ true → q ≡ true) → (q ≡ true → p ≡ true) → p ≡ q
same_answers true true to from = refl
same_answers true false to from = sym (to refl)
same_answers false true to from = from refl
same_answers false false to from = refl

-- a test passes for some element of one list exactly where it does for some of another with the same elements
pub same_any : {E : Type 0} (test : E → Bool) (es fs : List E) → ((g : E) → IsIn es g → IsIn fs g) → ((g : E) → IsIn fs g → IsIn es g) → list_any test es ≡ list_any test fs
same_any test es fs to from =
    same_answers (list_any test es) (list_any test fs)
    (λ h. let (e, (is, passes)) = of_any test es h in any_in test fs e (to e is) passes)
    (λ h. let (e, (is, passes)) = of_any test fs h in any_in test es e (from e is) passes)
