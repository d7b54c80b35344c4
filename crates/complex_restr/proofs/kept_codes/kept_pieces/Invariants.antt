use Rattle.std.proofs.Common.{◌≡◌, map, take}
use Rattle.complex_restr.specs.KeptPieces.{is_kept_piece}
use Rattle.complex_restr.proofs.kept_codes.kept_pieces.Given as goal

abbrev pub invariant-loop-i : goal.invariant-loop-i
invariant-loop-i l = l.kept.items ≡ map (is_kept_piece l.asked) (take l.i l.pieces)
