-- One step of a search over sets of members of via ways, as code makes it.
use Rattle.std.specs.Prelude.{◌≡◌, ◌≤◌, ◌&&◌, ◌||◌, ℕ, zero, suc, Bool, false, List, length, filter, nat_eq, nat_lt}
use Rattle.std.specs.List.{range_with_len, slice_index_or}
use Rattle.pattern_search.specs.Members.{Members, members_after}
use Rattle.pattern_search.specs.Spelling.{members_in}

-- the tests of via ways: whether a letter goes on in the part that another one is in, whether it is of the way of a
-- member, and whether a word may end with it
pub record ViaTests (P : Type 0) : Type 0 where
  pub count : ℕ
  pub letters : P → List P
  pub last : P → P → Bool
  pub goes_on : P → P → Bool
  pub of : P → ℕ → Bool
  pub can : ℕ → P → Bool

-- the members that they make: a word ends after the last member; it stays at a member where a letter goes on in its
-- part, and comes to the next one with a letter of that one's way
abbrev pub via_members : {P : Type 0} → ViaTests P → Members P
via_members t = record {
  count = t.count;
  letters = t.letters;
  last = λ i p q. nat_eq i t.count && t.last p q;
  moves = λ i p q j. (nat_eq j i && (nat_lt 0 i && t.goes_on p q)) || (nat_eq j (suc i) && t.of q j);
  can = t.can;
}

-- whether a word may be at a member after a letter, where it was at the members of a set before: `can` and `of` say of each
-- member whether a word may be completed there, and whether the letter is of its way; `goes` whether it goes on
abbrev pub comes_to : List Bool → List Bool → Bool → List Bool → ℕ → Bool
comes_to set can goes of zero = false
comes_to set can goes of (suc j) = slice_index_or can (suc j) false && ((goes && slice_index_or set (suc j) false) || (slice_index_or of (suc j) false && slice_index_or set j false))

-- all of them
abbrev pub members_come : List Bool → List Bool → Bool → List Bool → List ℕ
members_come set can goes of = filter (comes_to set can goes of) (range_with_len 0 (length set))

-- The law of steps: these are the members after the letter.
abbrev pub StepsTell : Type 0 → Type 0
StepsTell P =
    (t : ViaTests P) (p q : P) (set can of : List Bool) (goes : Bool) → length set ≡ suc t.count → goes ≡ t.goes_on p q → ((j : ℕ) → j ≤ t.count → slice_index_or can j false ≡ t.can j q) → ((j : ℕ) → j ≤ t.count → slice_index_or of j false ≡ t.of q j) → members_after (via_members t) (members_in set) p q ≡ members_come set can goes of
