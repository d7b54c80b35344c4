use Rattle.std.proofs.Common.{◌∙◌, arith}
use Rattle.tile_bytes.proofs.WordLists.{compared}
use Rattle.tile_bytes.proofs.sequence_section.compare.Goals as goal

pub returns : goal.returns
returns c = c.cmp-2.ensures ∙ compared c.args.ids.now c.args.words.now c.loop-i.i (omega (arith, c.min-i-end.ensures)) (omega (arith, c.min-i-end.ensures)) c.loop-i.invariant
