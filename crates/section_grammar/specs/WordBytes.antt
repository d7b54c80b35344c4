-- Numbers in bytes, the lowest byte first: words of eight bytes, and halves of four.
use Rattle.std.specs.Prelude.{ℕ, zero, suc, ◌<◌, List, [], ◌∷◌, take, drop, slice_index}
use Rattle.std.specs.List.{flat_map}
use Rattle.std.specs.Int.{w32, w64, to_le_bytes, from_le_bytes}

-- numbers that are bytes
abbrev pub IsByteList : List ℕ → Type 0
IsByteList bytes = (i : ℕ) → slice_index bytes i < 256

-- the word that the first eight bytes spell
unfoldable pub word_in : List ℕ → ℕ
word_in bytes = from_le_bytes w64 (take 8 bytes)

-- so many words from the front
abbrev pub words_in : ℕ → List ℕ → List ℕ
words_in zero bytes = []
words_in (suc n) bytes = word_in bytes ∷ words_in n (drop 8 bytes)

-- the eight bytes of a word
unfoldable pub word_bytes : ℕ → List ℕ
word_bytes word = to_le_bytes w64 word

-- the bytes of words, one after the other
abbrev pub words_bytes : List ℕ → List ℕ
words_bytes words = flat_map word_bytes words

-- the half that the first four bytes spell
unfoldable pub half_in : List ℕ → ℕ
half_in bytes = from_le_bytes w32 (take 4 bytes)

-- the four bytes of a half
unfoldable pub half_bytes : ℕ → List ℕ
half_bytes half = to_le_bytes w32 half

-- the bytes of halves, one after the other
abbrev pub halves_bytes : List ℕ → List ℕ
halves_bytes halves = flat_map half_bytes halves
