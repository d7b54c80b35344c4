-- How long the longest word is from each member of via ways, counted up to a cap, from the last way back to the first.
use Rattle.std.specs.Prelude.{◌≡◌, ◌<◌, ◌-◌, ℕ, zero, suc, ℤ, Bool, true, List, filter, if◌then◌else◌}
use Rattle.std.specs.List.{list_any}
use Rattle.pattern_search.specs.Members.{IsRun}
use Rattle.pattern_search.specs.Most.{IsMost, most_along, most_of_one}
use Rattle.pattern_search.specs.ViaSets.{ViaTests, via_members}
use Rattle.pattern_search.specs.ViaWays.{AreTests, IsLine}

-- the letters after p that are of the way of a member
abbrev pub first_letters : {P : Type 0} → ViaTests P → ℕ → P → List P
first_letters t j p = filter (λ q. t.of q j) (t.letters p)

-- the number of what may come where a part ends after p, with so many ways left behind it: a last letter, or a letter of
-- the next way and what may come along the rest of its line
abbrev pub comes_number : {P : Type 0} → ℕ → ViaTests P → (P → List P) → ℕ → P → ℕ
comes_number cap t line zero p = if list_any (t.last p) (t.letters p) then 1 else 0
comes_number cap t line (suc left) p = most_of_one cap (λ q. most_along cap (comes_number cap t line left) q (line q)) (first_letters t (t.count - left) p)

-- the number of a letter in the part of a way, with so many ways left behind it
abbrev pub run_number : {P : Type 0} → ℕ → ViaTests P → (P → List P) → ℕ → P → ℕ
run_number cap t line left p = most_along cap (comes_number cap t line left) p (line p)

-- The law of numbers: they are the lengths of the longest words that are read from there, up to the cap. `line` has for each
-- letter those that go on from it.
abbrev pub NumbersTell : Type 0
NumbersTell =
    (joins goes_on last : ℕ → ℕ → Bool) (way : ℕ → ℤ) (vias : List ℤ) (none : ℤ) (t : ViaTests ℕ) → AreTests (λ p q. joins p q ≡ true) (λ p q. goes_on p q ≡ true) (λ p q. last p q ≡ true) way vias none (via_members t) → (line : ℕ → List ℕ) → ((p : ℕ) → IsLine (λ p q. joins p q ≡ true) (λ p q. goes_on p q ≡ true) p (line p)) → (cap : ℕ) → 1 < cap → (p : ℕ) → ((left : ℕ) → left < t.count → IsMost cap (IsRun (via_members t) (t.count - left) p) (run_number cap t line left p)) × (0 < t.count → IsMost cap (IsRun (via_members t) 0 p) (comes_number cap t line t.count p))
