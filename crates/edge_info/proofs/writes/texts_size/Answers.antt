use Rattle.std.proofs.Common.{◌+◌, ap, ◌∙◌, arith}
use Rattle.edge_info.proofs.TextSizes.{text_one_more}
use Rattle.edge_info.proofs.writes.texts_size.Goals as goal

pub loop-text-preserved : goal.loop-text-preserved
loop-text-preserved c = (
  ap (λ n. c.loop-text.size + n) c.text_size-size.ensures.value ∙ text_one_more c.args.texts.now c.loop-text.text-index c.loop-text.size c.text-item.result c.text-item.result (omega arith) c.text-item.is c.loop-text.invariant.0,
  omega (arith, c.text_size-size.ensures.bound, c.loop-text.invariant.1),
)
