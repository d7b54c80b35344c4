use Rattle.std.proofs.Common.{refl}
use Rattle.std.proofs.lemmas.Bool.{both_ways}
use Rattle.tile_walks.proofs.Options.{none_some}
use Rattle.tile_walks.proofs.steps.has_node.Goals as goal

pub returns-in-None : goal.returns-in-None
returns-in-None c = (
  λ no. absurd (both_ways _ refl no),
  λ there. absurd (none_some there.0 (c.in-None.ensures.only there.0 there.1)),
)
