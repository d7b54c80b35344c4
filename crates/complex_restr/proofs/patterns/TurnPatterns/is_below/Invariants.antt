use Rattle.std.proofs.Common.{take}
use Rattle.complex_restr.specs.Codes.{CodesBelow}
use Rattle.complex_restr.proofs.patterns.TurnPatterns.is_below.Given as goal

abbrev pub invariant-loop-i : goal.invariant-loop-i
invariant-loop-i l = CodesBelow l.count (take l.i l.self)
