use Rattle.edge_builder.proofs.ForwardRows.{told_forward}
use Rattle.edge_builder.proofs.laws.pieces_told_forward.Goals as goal

pub returns : goal.returns
returns c = told_forward
