-- A search as code does it: it stops as soon as one word more is found than may be answered.
use Rattle.std.specs.Prelude.{◌≡◌, ◌++◌, ℕ, ◌≤◌, Bool, false, List, ◌∷◌, length, take, map, filter, Option, Some, None}
use Rattle.std.specs.List.{flat_map, range_with_len, slice_index_or}
use Rattle.pattern_search.specs.Members.{ReadState}
use Rattle.pattern_search.specs.Words.{WordSearch, words_of, ended_word, led_words}

-- the list with more behind it, up to one past the limit
pub record AddedUpTo (old new more : List (List ℕ)) : Type 0 where
  pub few : length new ≤ 257
  pub is : new ≡ take 257 (old ++ more)

-- a set of members, as a test for each
abbrev pub members_in : List Bool → List ℕ
members_in set = filter (λ j. slice_index_or set j false) (range_with_len 0 (length set))

-- after this letter, at these members
abbrev pub state_of : ℕ → List Bool → ReadState ℕ
state_of letter set = record { letter = letter; members = members_in set }

abbrev pub state_of_some : ℕ → Option (List Bool) → Option (ReadState ℕ)
state_of_some letter None = None
state_of_some letter (Some set) = Some (state_of letter set)

-- the words that begin with this one, with more letters behind it
abbrev pub begun_with : List ℕ → List (List ℕ) → List (List ℕ)
begun_with word more = map (λ w. word ++ w) more

-- the words in which this letter is next
abbrev pub words_with : {D P : Type 0} → WordSearch D P → ℕ → D → P → List (List P)
words_with s n d q = ended_word (s.last d q) q ++ led_words (words_of s n) q (s.next d q)

-- the words that begin with one of these letters, each at these members, and go on with at most so many letters
abbrev pub words_from : WordSearch (ReadState ℕ) ℕ → ℕ → List ℕ → List ℕ → List (List ℕ)
words_from s most members firsts = flat_map (λ p. map (λ w. p ∷ w) (words_of s most (record { letter = p; members = members }))) firsts
