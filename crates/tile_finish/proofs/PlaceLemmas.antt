-- Numbers in rising order, each once, and where they stand.
use Rattle.std.proofs.Common.{◌≡◌, ℕ, zero, suc, ◌+◌, ◌<◌, Bool, true, false, cond, not, refl, sym, ap, subst, List, [], ◌∷◌, length, get_or, inl, inr, arith, eq-eqb}
use Rattle.std.specs.Prelude.{All, AllPairs, nat_lt, nat_eq}
use Rattle.std.specs.List.{Contains, position_or_len}
use Rattle.std.specs.List.Sorted.{IsStrictlyIncreasing}
use Rattle.std.proofs.lemmas.Bool.{lt-ltb, ltb-true}
use Rattle.std.proofs.lemmas.List.Kept.{AllPairs-from_increasing}
use Rattle.road_pieces.proofs.Members.{IsIn, in_at, at_in, in_from_contains, contains_from_in}
use Rattle.road_walks.specs.Orders.{rising}
use Rattle.road_walks.proofs.Sorted.{Sorted, rising_sorted, one_sorted, in_rising, of_rising, numbers_connected, below_self, below_on}

abbrev Rises : List ℕ → Type 0
Rises ns = Sorted nat_lt numbers_connected below_self below_on ns

rises_from : (ns : List ℕ) → AllPairs (λ a b. a < b) ns → Rises ns
rises_from [] h = tt
rises_from (n ∷ ns) h = (
  λ m k. let (i, (inside, is)) = at_in ns m k in let below = h 0 (suc i) 0 (omega arith) (omega (arith, inside)) in lt-ltb n m (omega (arith, below, is 0)),
  rises_from ns (λ i j d a b. h (suc i) (suc j) d (omega (arith, a)) (omega (arith, b))),
)

pairs_from : (ns : List ℕ) → Rises ns → (i j d : ℕ) → i < j → j < length ns → get_or ns i d < get_or ns j d
pairs_from [] h i j d a b = absurd (omega (arith, b))
pairs_from (n ∷ ns) h zero zero d a b = absurd (omega (arith, a))
pairs_from (n ∷ ns) h zero (suc j) d a b = ltb-true n (get_or ns j d) (h.0 (get_or ns j d) (in_at ns j d (get_or ns j d) (omega (arith, b)) refl))
pairs_from (n ∷ ns) h (suc i) zero d a b = absurd (omega (arith, a))
pairs_from (n ∷ ns) h (suc i) (suc j) d a b = pairs_from ns h.1 i j d (omega (arith, a)) (omega (arith, b))

-- what rises and has the same numbers is the one list of them in rising order
pub is_rising : (made ns : List ℕ) → IsStrictlyIncreasing made → ((x : ℕ) → Contains ns x → Contains made x) → ((x : ℕ) → Contains made x → Contains ns x) → made ≡ rising nat_lt ns
is_rising made ns up keeps adds_none =
    one_sorted nat_lt numbers_connected below_self below_on made (rising nat_lt ns)
    (rises_from made (AllPairs-from_increasing made up))
    (rising_sorted nat_lt numbers_connected below_self below_on ns)
    (λ x h. in_rising nat_lt numbers_connected ns x (in_from_contains ns x (adds_none x (contains_from_in made x h))))
    (λ x h. in_from_contains made x (keeps x (contains_from_in ns x (of_rising nat_lt numbers_connected ns x h))))

pub rising_pairs : (ns : List ℕ) → AllPairs (λ a b. a < b) (rising nat_lt ns)
rising_pairs ns = pairs_from (rising nat_lt ns) (rising_sorted nat_lt numbers_connected below_self below_on ns)

pub rising_keeps : (P : ℕ → Type 0) (ns : List ℕ) → All P ns → All P (rising nat_lt ns)
rising_keeps P ns all = λ k d inside.
    let (j, (within, is)) = at_in ns (get_or (rising nat_lt ns) k d) (of_rising nat_lt numbers_connected ns (get_or (rising nat_lt ns) k d) (in_at (rising nat_lt ns) k d (get_or (rising nat_lt ns) k d) inside refl)) in
    subst P (is d) (all j d within)

-- ---- where a number stands

position_inside : (ns : List ℕ) (n : ℕ) → IsIn ns n → position_or_len (nat_eq n) ns < length ns
position_inside [] n h = absurd h
position_inside (m ∷ ns) n (inl is) =
    let first = ap (λ b. cond (not b) (1 + position_or_len (nat_eq n) ns) 0) (eq-eqb n m (sym is)) in
    omega (arith, first)
position_inside (m ∷ ns) n (inr h) = by (nat_eq n m) (position_inside ns n h)
  where
    by : (b : Bool) → position_or_len (nat_eq n) ns < length ns → cond (not b) (1 + position_or_len (nat_eq n) ns) 0 < suc (length ns)
    by true l = omega arith
    by false l = omega (arith, l)

pub stands_inside : (ns : List ℕ) (n : ℕ) → IsIn ns n → position_or_len (nat_eq n) (rising nat_lt ns) < length (rising nat_lt ns)
stands_inside ns n h = position_inside (rising nat_lt ns) n (in_rising nat_lt numbers_connected ns n h)
