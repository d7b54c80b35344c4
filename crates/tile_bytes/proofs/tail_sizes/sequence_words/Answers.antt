use Rattle.std.proofs.Common.{◌+◌, [], ap, ◌∙◌, arith}
use Rattle.tile_bytes.specs.declared.sequences.Sequence.{Sequence}
use Rattle.tile_bytes.proofs.WordSums.{sequences_one_more}
use Rattle.tile_bytes.proofs.tail_sizes.sequence_words.Goals as goal

nothing : Sequence
nothing = record { edges = []; modes = 0 }

pub loop-i-preserved : goal.loop-i-preserved
loop-i-preserved c = (
  ap (λ n. c.loop-i.words + n) c.ids_words-words.ensures.value ∙ sequences_one_more c.args.sequences.now c.loop-i.i c.loop-i.words c.edges.result.now nothing (omega (arith, c.len-i-end.ensures)) (c.edges.ensures nothing) c.loop-i.invariant.0,
  omega (arith, c.ids_words-words.ensures.bound, c.loop-i.invariant.1),
)
