use Rattle.std.proofs.Common.{arith}
use Rattle.hierarchy.proofs.SpotLemmas.{tile_added, all_gathered}
use Rattle.hierarchy.proofs.spots.gather.Goals as goal

pub loop-source-preserved : goal.loop-source-preserved
loop-source-preserved c = tile_added c.args.level c.args.tiles.now c.loop-source.source c.loop-source.spots.items c.gather_tile.new.spots.items (omega arith) c.loop-source.invariant c.in_ok-gather_tile.ensures

pub returns : goal.returns
returns c = all_gathered c.args.level c.args.tiles.now c.loop-source.source c.loop-source.spots.items (omega arith) c.loop-source.invariant
