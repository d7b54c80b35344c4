use Rattle.std.proofs.Common.{sym, ◌∙◌}
use Rattle.complex_restr.proofs.MaskLemmas.{masks_told, masks_untold}
use Rattle.complex_restr.proofs.edge_masks.put_bit.Goals as goal

pub returns-then-is_in_mask : goal.returns-then-is_in_mask
returns-then-is_in_mask c =
    λ before are. masks_told c.args.locals.now before c.args.masks.now c.codes-codes.result.now c.args.pattern.now c.codes-codes.ensures c.requires.below (sym c.is_in_mask.ensures ∙ c.if-is_in_mask.true) are

pub returns-else-is_in_mask : goal.returns-else-is_in_mask
returns-else-is_in_mask c =
    λ before are. masks_untold c.args.locals.now before c.args.masks.now c.args.pattern.now (sym c.is_in_mask.ensures ∙ c.if-is_in_mask.false) are
