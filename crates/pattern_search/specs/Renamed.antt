-- Letters under other names: a search over numbers that stand for the letters of another one.
use Rattle.std.specs.Prelude.{◌≡◌, ℕ, Bool, true, List, map}
use Rattle.pattern_search.specs.Words.{Includes, words_of}
use Rattle.pattern_search.specs.Members.{Members, by_sets}

-- the numbers stand for letters, and all tests are the same
pub record AreRenamed {P : Type 0} (is_letter : ℕ → Bool) (letter : ℕ → P) (numbers : Members ℕ) (m : Members P) : Type 0 where
  pub count : m.count ≡ numbers.count
  pub letters : (p : ℕ) → is_letter p ≡ true → m.letters (letter p) ≡ map letter (numbers.letters p)
  pub are : (p q : ℕ) → is_letter p ≡ true → Includes (numbers.letters p) q → is_letter q ≡ true
  pub last : (i p q : ℕ) → is_letter p ≡ true → is_letter q ≡ true → m.last i (letter p) (letter q) ≡ numbers.last i p q
  pub moves : (i p q j : ℕ) → is_letter p ≡ true → is_letter q ≡ true → m.moves i (letter p) (letter q) j ≡ numbers.moves i p q j
  pub can : (i p : ℕ) → is_letter p ≡ true → m.can i (letter p) ≡ numbers.can i p

-- The law of names: the words are the same ones.
abbrev pub SameWordsRenamed : Type 0 → Type 0
SameWordsRenamed P =
    (is_letter : ℕ → Bool) (letter : ℕ → P) (numbers : Members ℕ) (m : Members P) → AreRenamed is_letter letter numbers m → (n p : ℕ) (is : List ℕ) → is_letter p ≡ true → words_of (by_sets m) n (record { letter = letter p; members = is }) ≡ map (map letter) (words_of (by_sets numbers) n (record { letter = p; members = is }))
