-- Where the fields of a record stand in its four words of 64 bits, bit 0 the lowest.
use Rattle.std.specs.Prelude.{◌≡◌, ℕ, ◌+◌, ◌^◌, ◌<◌, Bool, true, List, [], ◌∷◌, ◌++◌, length, slice_index, nat_eq, nat_lt, ◌&&◌, if◌then◌else◌}
use Rattle.bit_words.specs.Bits.{bits_of, word_of}

-- the bits of a field: the word that has them, the first of them, and how many they are
pub record BitSpan : Type 0 where
  pub word : ℕ
  pub first : ℕ
  pub width : ℕ

-- a row of a table of fields
abbrev pub span : ℕ → ℕ → ℕ → BitSpan
span word first width = record { word = word; first = first; width = width }

-- four words of 64 bits
pub record AreWords (words : List ℕ) : Type 0 where
  pub four : length words ≡ 4
  pub fit : (i : ℕ) → slice_index words i < 2 ^ 64

-- the number that the words have in a span
abbrev pub number_in : List ℕ → BitSpan → ℕ
number_in words s = bits_of (slice_index words s.word) s.first s.width

-- the fields of one word, from the lowest bit up, each as its width and its number
abbrev pub fields_of_word : ℕ → List (BitSpan × ℕ) → List (ℕ × ℕ)
fields_of_word word [] = []
fields_of_word word (p ∷ ps) =
    if nat_eq p.0.word word then (p.0.width, p.1) ∷ fields_of_word word ps else fields_of_word word ps

-- the four words that have these numbers in these spans, which leave no gap
abbrev pub words_with : List (BitSpan × ℕ) → List ℕ
words_with parts =
    word_of (fields_of_word 0 parts)
    ∷ word_of (fields_of_word 1 parts)
    ∷ word_of (fields_of_word 2 parts)
    ∷ word_of (fields_of_word 3 parts)
    ∷ []

-- how many bits of a word these spans have
abbrev pub used_bits : ℕ → List BitSpan → ℕ
used_bits word [] = 0
used_bits word (s ∷ ss) = if nat_eq s.word word then s.width + used_bits word ss else used_bits word ss

-- each span begins where those before it in its word end, and lies in one of four words
abbrev pub leave_no_gap : List BitSpan → List BitSpan → Bool
leave_no_gap before [] = true
leave_no_gap before (s ∷ ss) =
    nat_lt s.word 4 && nat_eq s.first (used_bits s.word before) && leave_no_gap (before ++ s ∷ []) ss

-- no bit is set that no span has
pub record HasNoSpare (spans : List BitSpan) (words : List ℕ) : Type 0 where
  pub first : slice_index words 0 < 2 ^ used_bits 0 spans
  pub second : slice_index words 1 < 2 ^ used_bits 1 spans
  pub third : slice_index words 2 < 2 ^ used_bits 2 spans
  pub fourth : slice_index words 3 < 2 ^ used_bits 3 spans

-- the same as a test
abbrev pub has_no_spare : List BitSpan → List ℕ → Bool
has_no_spare spans words =
    nat_lt (slice_index words 0) (2 ^ used_bits 0 spans)
    && nat_lt (slice_index words 1) (2 ^ used_bits 1 spans)
    && nat_lt (slice_index words 2) (2 ^ used_bits 2 spans)
    && nat_lt (slice_index words 3) (2 ^ used_bits 3 spans)
