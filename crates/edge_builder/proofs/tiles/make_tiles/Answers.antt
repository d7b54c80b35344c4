use Rattle.std.proofs.Common.{◌<◌, ◌∙◌, ◌++◌, ap, subst, arith}
use Rattle.std.specs.Prelude.{All}
use Rattle.edge_builder.specs.BaseTiles.{tile_if_used}
use Rattle.edge_builder.proofs.TileLemmas.{tiles_more}
use Rattle.edge_builder.proofs.UsedTiles.{used_tiles}
use Rattle.edge_builder.proofs.tiles.make_tiles.Goals as goal

pub loop-tile-preserved : goal.loop-tile-preserved
loop-tile-preserved c =
    let plan = c.args.plan.now in
    c.in_ok-add_tile.ensures ∙ (ap (λ ts. ts ++ tile_if_used plan.junctions.now plan.pieces.now c.loop-tile.tile) c.loop-tile.invariant ∙ tiles_more (tile_if_used plan.junctions.now plan.pieces.now) c.loop-tile.tile)

pub returns : goal.returns
returns c =
    let plan = c.args.plan.now in
    let below = subst (All (λ n. n < c.args.bound)) c.requires.planned.tiles_are c.requires.below in
    c.loop-tile.invariant ∙ used_tiles plan.junctions.now plan.pieces.now c.loop-tile.tile (λ k d h. let low = below k d h in omega (arith, low, c.loop-tile-test.false))
