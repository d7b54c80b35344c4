-- Words over the pieces of ways, as a turn restriction with via ways has them. Its members: 0 after the first piece, i in
-- the part of via way i, counted from 1. Nothing here is about roads: what a piece is, and when one joins another or goes
-- on in its run, is given.
use Rattle.std.specs.Prelude.{◌≡◌, ◌⊎◌, ◌↔◌, ℕ, suc, ◌≤◌, ◌<◌, ℤ, Bool, true, List, [], ◌∷◌, length, get_or, drop}
use Rattle.pattern_search.specs.Words.{Includes}
use Rattle.pattern_search.specs.Members.{Members, IsRun}

-- after the piece p of a via way, with these via ways left, the list completes a word
pub data IsRest {P : Type 0} (Joins GoesOn Last : P → P → Type 0) (way : P → ℤ) : List ℤ → P → List P → Type 0 where
  comes_last : (p q : P) → Joins p q → Last p q → IsRest Joins GoesOn Last way [] p (q ∷ [])
  comes_next : (ways : List ℤ) (p q : P) (rest : List P) → Joins p q → GoesOn p q → IsRest Joins GoesOn Last way ways q rest → IsRest Joins GoesOn Last way ways p (q ∷ rest)
  comes_first : (via : ℤ) (ways : List ℤ) (p q : P) (rest : List P) → Joins p q → way q ≡ via → IsRest Joins GoesOn Last way ways q rest → IsRest Joins GoesOn Last way (via ∷ ways) p (q ∷ rest)

-- the tests of a search are those of the via ways
pub record AreTests {P : Type 0} (Joins GoesOn Last : P → P → Type 0) (way : P → ℤ) (vias : List ℤ) (none : ℤ) (m : Members P) : Type 0 where
  pub count : m.count ≡ length vias
  pub letters : (p q : P) → Includes (m.letters p) q ↔ Joins p q
  pub last : (i : ℕ) (p q : P) → (m.last i p q ≡ true) ↔ ((i ≡ length vias) × Last p q)
  pub moves : (i j : ℕ) (p q : P) → (m.moves i p q j ≡ true) ↔ (((j ≡ i) × (0 < i) × GoesOn p q) ⊎ ((j ≡ suc i) × (i < length vias) × (way q ≡ get_or vias i none)))

-- the pieces that go on from p in its run and direction, to the run's end
abbrev pub IsLine : {P : Type 0} → (P → P → Type 0) → (P → P → Type 0) → P → List P → Type 0
IsLine {P} Joins GoesOn p [] = (q : P) → Joins p q → GoesOn p q → ⊥
IsLine {P} Joins GoesOn p (q ∷ qs) = Joins p q × GoesOn p q × ((r : P) → Joins p r → GoesOn p r → r ≡ q) × IsLine Joins GoesOn q qs

-- what may come where the part of member i ends after p: a last piece, or a piece of the next via way
pub data ComesAfter {P : Type 0} (m : Members P) (i : ℕ) (p : P) : List P → Type 0 where
  a_last : (q : P) → Includes (m.letters p) q → m.last i p q ≡ true → ComesAfter m i p (q ∷ [])
  a_first : (q : P) (rest : List P) → Includes (m.letters p) q → suc i ≤ m.count → m.moves i p q (suc i) ≡ true → IsRun m (suc i) q rest → ComesAfter m i p (q ∷ rest)

-- The law of via ways: the runs from a member of a via way are the rests of the ways behind it.
abbrev pub RestsTell : Type 0
RestsTell =
    (joins goes_on last : ℕ → ℕ → Bool) (way : ℕ → ℤ) (vias : List ℤ) (none : ℤ) (m : Members ℕ) → AreTests (λ p q. joins p q ≡ true) (λ p q. goes_on p q ≡ true) (λ p q. last p q ≡ true) way vias none m → (i : ℕ) → 0 < i → i ≤ length vias → (p : ℕ) (w : List ℕ) → IsRun m i p w ↔ IsRest (λ p q. joins p q ≡ true) (λ p q. goes_on p q ≡ true) (λ p q. last p q ≡ true) way (drop i vias) p w
