use Rattle.std.proofs.lemmas.Bool.{both_ways}
use Rattle.way_tags.specs.declared.modes.TheConstants.{VEHICLES}
use Rattle.tile_walks.proofs.Permitted.{permitted_to, permitted_back}
use Rattle.tile_walks.proofs.graph.TileGraph.tile_walk_ok.Goals as goal

pub returns-then-follow : goal.returns-then-follow
returns-then-follow c =
    let law = c.walks_follow.ensures c.args.self.now c.checked.ensures.0 c.checked.ensures.1 VEHICLES c.args.mode c.args.items.now in (
      λ yes. law.0 (c.follow.ensures.0 c.if-follow.true, permitted_to c.args.self.now c.args.mode c.args.items.now (c.permits.ensures.0 yes)),
      λ walk. c.permits.ensures.1 (permitted_back c.args.self.now c.args.mode c.args.items.now (law.1 walk).1),
    )

pub returns-else-follow : goal.returns-else-follow
returns-else-follow c =
    let law = c.walks_follow.ensures c.args.self.now c.checked.ensures.0 c.checked.ensures.1 VEHICLES c.args.mode c.args.items.now in
    (λ no. absurd (both_ways _ c.if-follow.false no), λ walk. absurd (both_ways _ c.if-follow.false (c.follow.ensures.1 (law.1 walk).0)))
