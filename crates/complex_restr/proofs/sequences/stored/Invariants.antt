use Rattle.std.proofs.Common.{◌≡◌, take}
use Rattle.complex_restr.specs.Codes.{stored_codes}
use Rattle.complex_restr.proofs.sequences.stored.Given as goal

abbrev pub invariant-loop-i : goal.invariant-loop-i
invariant-loop-i l = l.stored ≡ stored_codes l.locals l.kept (take l.i l.patterns)
