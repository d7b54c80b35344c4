-- Which pieces of the roads are kept.
use Rattle.std.specs.Prelude.{ℕ, Bool, not, nat_eq, bit_and, bit_or}
use Rattle.road_pieces.specs.declared.rows.Piece.{Piece}

-- the piece is open to an asked mode in some direction
abbrev pub is_kept_piece : ℕ → Piece → Bool
is_kept_piece asked p = not (nat_eq (bit_and (bit_or p.forward p.backward) asked) 0)
