use Rattle.turn_patterns.proofs.NodeFoundLaw.{node_is_found}
use Rattle.turn_patterns.proofs.laws.node_answer.Goals as goal

pub returns : goal.returns
returns c = node_is_found c.node_patterns_agree.ensures
