use Rattle.tile_walks.proofs.WalkLaw.{to_walk, of_walk}
use Rattle.tile_walks.proofs.laws.walks_follow.Goals as goal

pub returns : goal.returns
returns c = λ tiles all rises vehicles mode named. (λ h. to_walk tiles all rises vehicles mode named h.0 h.1, of_walk tiles all rises vehicles mode named)
