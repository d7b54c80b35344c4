use Rattle.std.proofs.Common.{length, take}
use Rattle.complex_restr.specs.Codes.{AreFlags}
use Rattle.complex_restr.proofs.sequences.flag_all.Given as goal

abbrev pub invariant-loop-i : goal.invariant-loop-i
invariant-loop-i l = AreFlags l.locals (take l.i l.patterns) (length l.flags) l.flags
