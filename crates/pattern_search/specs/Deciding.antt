-- Tests that decide what via ways ask.
use Rattle.std.specs.Prelude.{◌≡◌, ◌↔◌, ℕ, suc, ◌<◌, ℤ, Bool, true, List, length, get_or}
use Rattle.pattern_search.specs.Words.{Includes}
use Rattle.pattern_search.specs.ViaSets.{ViaTests, via_members}
use Rattle.pattern_search.specs.ViaWays.{AreTests}

-- each test holds exactly where what it tests does; members are counted from 1
pub record TestsDecide {P : Type 0} (Joins GoesOn Last : P → P → Type 0) (way : P → ℤ) (vias : List ℤ) (none : ℤ) (t : ViaTests P) : Type 0 where
  pub count : t.count ≡ length vias
  pub letters : (p q : P) → Includes (t.letters p) q ↔ Joins p q
  pub last : (p q : P) → (t.last p q ≡ true) ↔ Last p q
  pub goes_on : (p q : P) → (t.goes_on p q ≡ true) ↔ GoesOn p q
  pub of : (q : P) (i : ℕ) → (t.of q (suc i) ≡ true) ↔ ((i < length vias) × (way q ≡ get_or vias i none))

-- The law of tests: the members that such tests make are those of the via ways.
abbrev pub TestsAreRight : Type 0
TestsAreRight =
    (joins goes_on last : ℕ → ℕ → Bool) (way : ℕ → ℤ) (vias : List ℤ) (none : ℤ) (t : ViaTests ℕ) → TestsDecide (λ p q. joins p q ≡ true) (λ p q. goes_on p q ≡ true) (λ p q. last p q ≡ true) way vias none t → AreTests (λ p q. joins p q ≡ true) (λ p q. goes_on p q ≡ true) (λ p q. last p q ≡ true) way vias none (via_members t)
