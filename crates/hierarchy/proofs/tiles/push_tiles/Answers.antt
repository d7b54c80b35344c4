use Rattle.std.proofs.Common.{◌∙◌, pos, arith}
use Rattle.hierarchy.proofs.RunLemmas.{tile_put, tiles_put}
use Rattle.hierarchy.proofs.tiles.push_tiles.Goals as goal

pub loop-from-preserved : goal.loop-from-preserved
loop-from-preserved c = record {
  inside = c.run_end-to.ensures.high;
  whole =
      tile_put c.args.level c.args.tiles.now c.args.spots.now c.loop-from.from c.run_end-to.result (record { tile = 0; osm = pos 0; source = 0; node = 0 }) _ c.loop-from.lifted.items c.push.new.self.items c.in_ok-tile.tile
      c.run_end-to.ensures.low c.run_end-to.ensures.high c.requires.rise c.run_end-to.ensures.same c.run_end-to.ensures.other (c.in_ok-tile.ensures ∙ c.in_ok-rows.ensures) c.in_ok-push.ensures.items c.loop-from.invariant.whole;
}

pub returns : goal.returns
returns c = tiles_put c.args.level c.args.tiles.now c.args.spots.now c.loop-from.from _ c.loop-from.lifted.items (omega arith) c.loop-from.invariant.whole
