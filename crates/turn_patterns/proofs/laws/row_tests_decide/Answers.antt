use Rattle.turn_patterns.proofs.RowTestLaw.{row_tests_decide}
use Rattle.turn_patterns.proofs.laws.row_tests_decide.Goals as goal

pub returns : goal.returns
returns c = row_tests_decide c.pieces_listed.ensures
