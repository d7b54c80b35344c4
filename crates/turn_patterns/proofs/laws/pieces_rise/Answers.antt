use Rattle.turn_patterns.proofs.RiseLaw.{pieces_rise}
use Rattle.turn_patterns.proofs.laws.pieces_rise.Goals as goal

pub returns : goal.returns
returns c = pieces_rise
