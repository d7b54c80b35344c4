-- Words that a search spells: in each state there are letters in order; with a letter the word may end, and it may
-- lead on to another state.
use Rattle.std.specs.Prelude.{◌≡◌, ◌⊎◌, ◌↔◌, ⊤, ℕ, zero, suc, ◌≤◌, ◌<◌, Bool, true, false, List, [], ◌∷◌, ◌++◌, length, map, Option, None, Some}
use Rattle.std.specs.List.{flat_map}

-- an element stands in a list
abbrev pub Includes : {E : Type 0} → List E → E → Type 0
Includes [] e = ⊥
Includes (f ∷ fs) e = (f ≡ e) ⊎ Includes fs e

-- each element is below all behind it
abbrev pub Rising : {E : Type 0} → (E → E → Type 0) → List E → Type 0
Rising Less [] = ⊤
Rising {E} Less (e ∷ es) = ((f : E) → Includes es f → Less e f) × Rising Less es

-- words in order: by the first letter that differs, and a word before each longer one that begins with it
abbrev pub Before : {P : Type 0} → (P → P → Type 0) → List P → List P → Type 0
Before Less [] [] = ⊥
Before Less [] (q ∷ qs) = ⊤
Before Less (p ∷ ps) [] = ⊥
Before Less (p ∷ ps) (q ∷ qs) = Less p q ⊎ ((p ≡ q) × Before Less ps qs)

-- what spells words: the letters in each state, whether a word may end with one there, and where it leads on
pub record WordSearch (D P : Type 0) : Type 0 where
  pub letters : D → List P
  pub last : D → P → Bool
  pub next : D → P → Option D

-- from this state on, the list is a word
pub data IsWord {D P : Type 0} (s : WordSearch D P) : D → List P → Type 0 where
  word_ends : (d : D) (q : P) → Includes (s.letters d) q → s.last d q ≡ true → IsWord s d (q ∷ [])
  word_goes : (d e : D) (q : P) (rest : List P) → Includes (s.letters d) q → s.next d q ≡ Some e → IsWord s e rest → IsWord s d (q ∷ rest)

-- the word of one letter, where it may end; the words that it leads on to
abbrev pub ended_word : {P : Type 0} → Bool → P → List (List P)
ended_word true q = (q ∷ []) ∷ []
ended_word false q = []

abbrev pub led_words : {D P : Type 0} → (D → List (List P)) → P → Option D → List (List P)
led_words f q None = []
led_words f q (Some e) = map (λ w. q ∷ w) (f e)

-- the words of at most so many letters, in order
abbrev pub words_of : {D P : Type 0} → WordSearch D P → ℕ → D → List (List P)
words_of s zero d = []
words_of s (suc n) d = flat_map (λ q. ended_word (s.last d q) q ++ led_words (words_of s n) q (s.next d q)) (s.letters d)

-- The law of searches: exactly the words of at most so many letters, and in order, so each once
abbrev pub WordsTell : {D P : Type 0} → WordSearch D P → (P → P → Type 0) → Type 0
WordsTell {D} {P} s Less =
    ((d : D) → Rising Less (s.letters d)) → (n : ℕ) (d : D) → ((w : List P) → Includes (words_of s n d) w ↔ (IsWord s d w × (length w ≤ n))) × Rising (Before Less) (words_of s n d)

-- The law of lists that rise: one is no longer than any other list with its elements.
abbrev pub RisingIsShort : Type 0
RisingIsShort = (ws others : List (List ℕ)) → Rising (Before (λ p q. p < q)) ws → ((w : List ℕ) → Includes ws w → Includes others w) → length ws ≤ length others
