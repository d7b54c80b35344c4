-- Numbers as bytes.
use Rattle.std.specs.Prelude.{ℕ, ◌%◌, List, map}

-- a number as a byte, its low eight bits; a byte is itself
abbrev pub as_byte : ℕ → ℕ
as_byte number = number % 256

abbrev pub as_bytes : List ℕ → List ℕ
as_bytes numbers = map as_byte numbers

-- the files of that content, whose paths stay
abbrev pub as_byte_files : List (List ℕ × List ℕ) → List (List ℕ × List ℕ)
as_byte_files files = map (λ file. (file.0, as_bytes file.1)) files
