use Rattle.std.proofs.Common.{◌+◌, ◌*◌, drop, sym, ◌∙◌, arith}
use Rattle.std.proofs.lemmas.List.{length-drop}
use Rattle.tile_bytes.specs.Chains.{chain_offsets}
use Rattle.tile_bytes.proofs.OffsetLaws.{offsets_done}
use Rattle.tile_bytes.proofs.chain_section.check_offsets.Goals as goal

pub returns : goal.returns
returns c = sym c.loop-i.invariant.0 ∙ offsets_done (c.args.at + 32 * c.loop-i.i) (drop c.loop-i.i c.args.edges.now) (chain_offsets c.loop-i.offset (drop c.loop-i.next c.args.chains.now)) (omega (arith, length-drop c.loop-i.i c.args.edges.now))
