use Rattle.access_filter.specs.Kept.{kept_tiles}
use Rattle.access_filter.proofs.NodesKept.{tiles_push}
use Rattle.access_filter.proofs.keeping.keep.Goals as goal

pub loop-tile-init : goal.loop-tile-init
unfolding kept_tiles
loop-tile-init c = c.new-kept.ensures.items

pub loop-tile-preserved : goal.loop-tile-preserved
loop-tile-preserved c = tiles_push c.args.modes c.loop-tile.yielded c.loop-tile.kept.items c.keep_tile.new.kept.items c.in-Some.tile c.loop-tile.invariant c.in_ok-keep_tile.ensures
