-- No piece so far is too long.
use Rattle.std.proofs.Common.{◌≡◌, drop}
use Rattle.std.specs.Prelude.{find, nat_lt}
use Rattle.road_pieces.proofs.cutting.first_too_long.Given as goal

abbrev pub invariant-loop-i : goal.invariant-loop-i
invariant-loop-i l =
    find (λ p. nat_lt 268_435_455 p.cm) (drop l.i l.pieces) ≡ find (λ p. nat_lt 268_435_455 p.cm) l.pieces
