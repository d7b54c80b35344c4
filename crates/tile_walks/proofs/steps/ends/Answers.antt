use Rattle.tile_walks.proofs.Stands.{ends_nowhere}
use Rattle.tile_walks.proofs.steps.ends.Goals as goal

pub returns-in-None : goal.returns-in-None
returns-in-None c =
    let both = ends_nowhere c.args.graph.now c.args.at c.in-None.is in
    (λ yes. both.1 (c.has_nodes.ensures.0 yes), λ ends. c.has_nodes.ensures.1 (both.0 ends))
