use Rattle.std.proofs.Common.{take, arith}
use Rattle.complex_restr.specs.Codes.{AreMasks}
use Rattle.complex_restr.proofs.MaskLemmas.{masks_none}
use Rattle.complex_restr.proofs.Steps.{one_more}
use Rattle.complex_restr.proofs.edge_masks.put_bits.Goals as goal

pub loop-i-init : goal.loop-i-init
loop-i-init c = masks_none c.args.locals.now c.args.masks.now c.requires.none

pub loop-i-preserved : goal.loop-i-preserved
loop-i-preserved c =
    one_more (λ patterns. AreMasks c.args.locals.now patterns c.put_bit.new.masks) c.args.patterns.now c.loop-i.i c.at.result (omega arith) c.at.ensures
    (c.put_bit.ensures (take c.loop-i.i c.args.patterns.now) c.loop-i.invariant)
