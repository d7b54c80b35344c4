-- Fields of bits in a word: the field at a place and of a width has the bits from that place on.
use Rattle.std.specs.Prelude.{ℕ, ◌+◌, ◌*◌, ◌/◌, ◌%◌, ◌^◌, ◌<◌, List, [], ◌∷◌}

-- the number that the field has
abbrev pub bits_of : ℕ → ℕ → ℕ → ℕ
bits_of word at width = word / 2 ^ at % 2 ^ width

-- the word with this number in the field: what stands above the field, the number, and what stands below it
abbrev pub with_bits : ℕ → ℕ → ℕ → ℕ → ℕ
with_bits word at width value = word / 2 ^ (at + width) * 2 ^ (at + width) + value * 2 ^ at + word % 2 ^ at

-- The word of these fields, from the lowest bit up. Each is its width and its number.
abbrev pub word_of : List (ℕ × ℕ) → ℕ
word_of [] = 0
word_of (f ∷ fs) = f.1 + 2 ^ f.0 * word_of fs

-- each number fits its field
abbrev pub FieldsFit : List (ℕ × ℕ) → Type 0
FieldsFit [] = Unit {0}
FieldsFit (f ∷ fs) = (f.1 < 2 ^ f.0) × FieldsFit fs

abbrev pub widths_of : List (ℕ × ℕ) → List ℕ
widths_of [] = []
widths_of (f ∷ fs) = f.0 ∷ widths_of fs

abbrev pub total_width : List ℕ → ℕ
total_width [] = 0
total_width (b ∷ bs) = b + total_width bs

-- the fields of these widths in a word, from a bit on
abbrev pub fields_from : ℕ → List ℕ → ℕ → List (ℕ × ℕ)
fields_from at [] word = []
fields_from at (b ∷ bs) word = (b, bits_of word at b) ∷ fields_from (at + b) bs word
