use Rattle.edge_builder.proofs.Bounds.{below_count}
use Rattle.edge_builder.proofs.base.tile_groups.Goals as goal

pub new-requires-clause-below : goal.new-requires-clause-below
new-requires-clause-below c = below_count c.args.junctions.now c.in_ok-tiles.tiles.items c.tile_bound.result c.requires.placed c.in_ok-tiles.ensures c.tile_bound.ensures
