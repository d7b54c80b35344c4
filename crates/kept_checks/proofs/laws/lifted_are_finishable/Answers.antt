use Rattle.kept_checks.proofs.KeptLaw.{lifted_law}
use Rattle.kept_checks.proofs.laws.lifted_are_finishable.Goals as goal

pub returns : goal.returns
returns c = lifted_law c.extract_roads.ensures c.pieces_told_forward.ensures c.lifted_are_table.ensures c.open_table_is_plain.ensures
