use Rattle.std.proofs.Common.{◌∙◌, ap, map}
use Rattle.edge_builder.specs.BaseRows.{junction_tile}
use Rattle.edge_builder.proofs.Bounds.{below_count}
use Rattle.edge_builder.proofs.base.base_tiles.Goals as goal

pub make_tiles-requires-clause-below : goal.make_tiles-requires-clause-below
make_tiles-requires-clause-below c =
    below_count c.args.roads.now.junctions c.in_ok-tiles.tiles c.tile_bound.result c.requires.placed (c.in_ok-tiles.ensures ∙ ap (map junction_tile) c.as_slice-junctions.ensures) c.tile_bound.ensures
