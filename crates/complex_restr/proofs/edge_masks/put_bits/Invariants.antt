use Rattle.std.proofs.Common.{take}
use Rattle.complex_restr.specs.Codes.{AreMasks}
use Rattle.complex_restr.proofs.edge_masks.put_bits.Given as goal

abbrev pub invariant-loop-i : goal.invariant-loop-i
invariant-loop-i l = AreMasks l.locals (take l.i l.patterns) l.masks
