-- Words that are read member by member: one word may be read in several ways, and a search goes over the words with
-- the set of members at which each of them can be.
use Rattle.std.specs.Prelude.{◌≡◌, ◌↔◌, ◌&&◌, ◌||◌, ℕ, suc, ◌≤◌, Bool, true, false, List, [], ◌∷◌, filter, Option, None, Some}
use Rattle.std.specs.List.{range_with_len}
use Rattle.pattern_search.specs.Words.{Includes, WordSearch, IsWord}

-- members are numbered from 0 to count. At a member, after a letter: the letters that may come, whether a word may end
-- with one, whether one leads on to another member, and whether a word may be completed there.
pub record Members (P : Type 0) : Type 0 where
  pub count : ℕ
  pub letters : P → List P
  pub last : ℕ → P → P → Bool
  pub moves : ℕ → P → P → ℕ → Bool
  pub can : ℕ → P → Bool

-- after the letter p, at the member i, the list completes a word
pub data IsRun {P : Type 0} (m : Members P) : ℕ → P → List P → Type 0 where
  run_stops : (i : ℕ) (p q : P) → Includes (m.letters p) q → m.last i p q ≡ true → IsRun m i p (q ∷ [])
  run_moves : (i j : ℕ) (p q : P) (rest : List P) → Includes (m.letters p) q → j ≤ m.count → m.moves i p q j ≡ true → IsRun m j q rest → IsRun m i p (q ∷ rest)

-- after the letter p, at one of these members
pub record ReadState (P : Type 0) : Type 0 where
  pub letter : P
  pub members : List ℕ

-- the test holds of a member
abbrev pub some_member : (ℕ → Bool) → List ℕ → Bool
some_member f [] = false
some_member f (i ∷ is) = f i || some_member f is

-- the members at which a word may be after the letter q, where it was at one of `is` before, and be completed
abbrev pub members_after : {P : Type 0} → Members P → List ℕ → P → P → List ℕ
members_after m is p q = filter (λ j. m.can j q && some_member (λ i. m.moves i p q j) is) (range_with_len 0 (suc m.count))

abbrev pub state_at : {P : Type 0} → P → List ℕ → Option (ReadState P)
state_at q [] = None
state_at q (i ∷ is) = Some (record { letter = q; members = i ∷ is })

-- the search that goes over sets of members; it turns back where a set is empty
abbrev pub by_sets : {P : Type 0} → Members P → WordSearch (ReadState P) P
by_sets m = record {
  letters = λ d. m.letters d.letter;
  last = λ d q. some_member (λ i. m.last i d.letter q) d.members;
  next = λ d q. state_at q (members_after m d.members d.letter q);
}

-- The law of sets: the words of the search are the runs
abbrev pub SetsTell : Type 0 → Type 0
SetsTell P =
    (m : Members P) → ((i : ℕ) (p : P) (w : List P) → IsRun m i p w → m.can i p ≡ true) → (d : ReadState P) (w : List P) → IsWord (by_sets m) d w ↔ ((i : ℕ) × (Includes d.members i × IsRun m i d.letter w))
