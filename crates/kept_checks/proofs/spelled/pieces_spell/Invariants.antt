-- What is told of the pieces so far.
use Rattle.std.proofs.Common.{ℕ, ◌<◌, get_or}
use Rattle.road_pieces.specs.declared.rows.Piece.{Piece}
use Rattle.kept_checks.specs.KeptChecks.{IsSpellable}
use Rattle.kept_checks.proofs.spelled.pieces_spell.Given as goal

abbrev pub invariant-loop-i : goal.invariant-loop-i
invariant-loop-i l = (k : ℕ) (d : Piece) → k < l.i → IsSpellable (get_or l.pieces k d)
