use Rattle.std.proofs.Common.{[], arith}
use Rattle.tile_bytes.specs.Chains.{chain_bytes}
use Rattle.tile_bytes.proofs.Pieces.{spelled_behind}
use Rattle.tile_bytes.proofs.write.push_chains.Goals as goal

pub loop-i-preserved : goal.loop-i-preserved
loop-i-preserved c = rw c.in_ok-push_chain.ensures (spelled_behind chain_bytes c.args.chains.now c.loop-i.i c.at.result.now [] c.args.out.now.items c.loop-i.out.items (omega (arith, c.len-i-end.ensures)) (c.at.ensures []) c.loop-i.invariant)
