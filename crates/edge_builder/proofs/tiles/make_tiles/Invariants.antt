-- The base tiles of the numbers so far.
use Rattle.std.proofs.Common.{◌≡◌, flat_map}
use Rattle.std.specs.List.{range_with_len}
use Rattle.edge_builder.specs.BaseTiles.{tile_if_used}
use Rattle.edge_builder.proofs.tiles.make_tiles.Given as goal

abbrev pub invariant-loop-tile : goal.invariant-loop-tile
invariant-loop-tile l = l.tiles.items ≡ flat_map (tile_if_used l.plan.junctions.now l.plan.pieces.now) (range_with_len 0 l.tile)
