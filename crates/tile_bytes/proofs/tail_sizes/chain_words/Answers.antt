use Rattle.std.proofs.Common.{◌+◌, [], ap, ◌∙◌, arith}
use Rattle.tile_bytes.proofs.WordSums.{chains_one_more}
use Rattle.tile_bytes.proofs.tail_sizes.chain_words.Goals as goal

pub loop-i-preserved : goal.loop-i-preserved
loop-i-preserved c = (
  ap (λ n. c.loop-i.words + n) c.ids_words-words.ensures.value ∙ chains_one_more c.args.chains.now c.loop-i.i c.loop-i.words c.at.result.now [] (omega (arith, c.len-i-end.ensures)) (c.at.ensures []) c.loop-i.invariant.0,
  omega (arith, c.ids_words-words.ensures.bound, c.loop-i.invariant.1),
)
