-- What is written of pieces is a message with these fields.
use Rattle.std.proofs.Common.{◌≡◌, ℕ, zero, suc, ◌+◌, ◌*◌, ◌-◌, ◌^◌, ◌<◌, ◌≤◌, List, [], ◌∷◌, ◌++◌, length, refl, sym, ap, ◌∙◌, subst, arith, append_assoc}
use Rattle.std.specs.List.{AllByRecursion, flat_map}
use Rattle.std.proofs.lemmas.List.{length-append}
use Rattle.wire_read.specs.Varint.{IsVarint}
use Rattle.wire_read.specs.Fields.{Content, Varint, Fixed64, Bytes, Fixed32, WireField, IsField, SpellsFields}
use Rattle.extract_maker.specs.Spelling.{varint_bytes, Piece, NumberPiece, BytesPiece, piece_bytes, message_bytes, field_front, bytes_field, number_field}
use Rattle.extract_maker.proofs.Varints.{is_varint, few_bytes}

-- ---- the fields of pieces

abbrev pub number_of_piece : Piece → ℕ
number_of_piece (NumberPiece number n) = number
number_of_piece (BytesPiece number bytes) = number

abbrev pub content_of_piece : Piece → Content
content_of_piece (NumberPiece number n) = Varint n
content_of_piece (BytesPiece number bytes) = Bytes bytes

-- how far behind the first byte the body stands
abbrev pub body_of_piece : Piece → ℕ
body_of_piece (NumberPiece number n) = length (varint_bytes (8 * number))
body_of_piece (BytesPiece number bytes) = length (bytes_field number bytes) - length bytes

abbrev pub field_of_piece : ℕ → Piece → WireField
field_of_piece at piece = record { number = number_of_piece piece; at = at; body_at = at + body_of_piece piece; content = content_of_piece piece }

abbrev pub fields_at : ℕ → List Piece → List WireField
fields_at at [] = []
fields_at at (piece ∷ pieces) = field_of_piece at piece ∷ fields_at (at + length (piece_bytes piece)) pieces

-- ---- they are spelled

pub record IsGoodNumber (number : ℕ) : Type 0 where
  pub least : 1 ≤ number
  pub most : number ≤ 20

abbrev pub IsGood : Piece → Type 0
IsGood (NumberPiece number n) = IsGoodNumber number × (n < 2 ^ 64)
IsGood (BytesPiece number bytes) = IsGoodNumber number × (length bytes < 2 ^ 64)

is_field : (at : ℕ) (piece : Piece) → IsGood piece → IsField (piece_bytes piece) (field_of_piece at piece)
is_field at (NumberPiece number n) good =
    let least = good.0.least in
    let most = good.0.most in
    let same : 8 * number ≡ 8 * number + 0 = omega arith in
    record {
      tag = varint_bytes (8 * number);
      body = varint_bytes n;
      kind = 0;
      parts = refl;
      spells_tag = subst (λ tag. IsVarint (varint_bytes (8 * number)) tag) same (is_varint (8 * number) (omega arith));
      least = least;
      greatest = omega arith;
      is_body = (refl, is_varint n good.1);
      body_place = refl;
    }
is_field at (BytesPiece number bytes) good =
    let least = good.0.least in
    let most = good.0.most in
    record {
      tag = varint_bytes (8 * number + 2);
      body = varint_bytes (length bytes) ++ bytes;
      kind = 2;
      parts = append_assoc (varint_bytes (8 * number + 2)) (varint_bytes (length bytes)) bytes;
      spells_tag = is_varint (8 * number + 2) (omega arith);
      least = least;
      greatest = omega arith;
      is_body = (refl, (varint_bytes (length bytes), is_varint (length bytes) good.1, refl));
      body_place = refl;
    }

pub spells_message : (at : ℕ) (pieces : List Piece) → AllByRecursion IsGood pieces → SpellsFields (message_bytes pieces) at (fields_at at pieces)
spells_message at [] good = refl
spells_message at (piece ∷ pieces) good =
    (piece_bytes piece, message_bytes pieces, is_field at piece good.0, refl, refl, spells_message (at + length (piece_bytes piece)) pieces good.1)

-- ---- how long they are

pub front_few : (number many : ℕ) → length (field_front number many) ≤ 20
front_few number many = omega (arith, length-append (varint_bytes (8 * number + 2)) (varint_bytes many), few_bytes (8 * number + 2), few_bytes many)

abbrev pub most_of_piece : Piece → ℕ
most_of_piece (NumberPiece number n) = 20
most_of_piece (BytesPiece number bytes) = 20 + length bytes

abbrev pub most_of : List Piece → ℕ
most_of [] = 0
most_of (piece ∷ pieces) = most_of_piece piece + most_of pieces

piece_few : (piece : Piece) → length (piece_bytes piece) ≤ most_of_piece piece
piece_few (NumberPiece number n) = omega (arith, length-append (varint_bytes (8 * number)) (varint_bytes n), few_bytes (8 * number), few_bytes n)
piece_few (BytesPiece number bytes) = omega (arith, length-append (field_front number (length bytes)) bytes, front_few number (length bytes))

pub message_few : (pieces : List Piece) → length (message_bytes pieces) ≤ most_of pieces
message_few [] = omega arith
message_few (piece ∷ pieces) = omega (arith, length-append (piece_bytes piece) (message_bytes pieces), piece_few piece, message_few pieces)
