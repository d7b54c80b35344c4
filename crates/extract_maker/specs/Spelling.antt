-- How numbers, fields and messages are written (protobuf.dev, "Encoding"): each number in its shortest spelling.
use Rattle.std.specs.Prelude.{ℕ, zero, suc, ◌+◌, ◌*◌, ◌/◌, ◌%◌, nat_lt, if◌then◌else◌, ℤ, pos, negsuc, ◌-ℤ◌, List, [], ◌∷◌, ◌++◌, length}
use Rattle.std.specs.List.{flat_map}

-- ---- numbers

-- groups of seven bits, the lowest first; so many may come behind the first
unfoldable pub groups_written : ℕ → ℕ → List ℕ
groups_written zero n = n % 128 ∷ []
groups_written (suc more) n = if nat_lt n 128 then n ∷ [] else (n % 128 + 128) ∷ groups_written more (n / 128)

-- a number of 64 bits
unfoldable pub varint_bytes : ℕ → List ℕ
varint_bytes n = groups_written 9 n

-- numbers, one after the other
abbrev pub packed : List ℕ → List ℕ
packed numbers = flat_map varint_bytes numbers

-- a signed number by zigzag
abbrev pub zigzag : ℤ → ℕ
zigzag (pos n) = 2 * n
zigzag (negsuc n) = 2 * n + 1

-- each number as its difference from the one before it; the one before the first is given
abbrev pub differences : ℤ → List ℤ → List ℕ
differences last [] = []
differences last (n ∷ numbers) = zigzag (n -ℤ last) ∷ differences n numbers

-- signed numbers as packed differences
abbrev pub packed_differences : List ℤ → List ℕ
packed_differences numbers = packed (differences (pos 0) numbers)

-- ---- messages

-- a field that is written: its number, and a varint or bytes
pub data Piece : Type 0 where
  NumberPiece : ℕ → ℕ → Piece
  BytesPiece : ℕ → List ℕ → Piece

abbrev pub number_field : ℕ → ℕ → List ℕ
number_field number n = varint_bytes (8 * number) ++ varint_bytes n

-- what stands before the bytes of a field: the tag, and how many bytes there are
abbrev pub field_front : ℕ → ℕ → List ℕ
field_front number many = varint_bytes (8 * number + 2) ++ varint_bytes many

abbrev pub bytes_field : ℕ → List ℕ → List ℕ
bytes_field number bytes = field_front number (length bytes) ++ bytes

abbrev pub piece_bytes : Piece → List ℕ
piece_bytes (NumberPiece number n) = number_field number n
piece_bytes (BytesPiece number bytes) = bytes_field number bytes

abbrev pub message_bytes : List Piece → List ℕ
message_bytes pieces = flat_map piece_bytes pieces
