use Rattle.turn_patterns.proofs.RiseLaw.{firsts_are}
use Rattle.turn_patterns.proofs.laws.first_pieces_rise.Goals as goal

pub returns : goal.returns
returns c = firsts_are c.pieces_listed.ensures
