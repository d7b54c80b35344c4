use Rattle.std.proofs.Common.{refl}
use Rattle.std.specs.Fmt.{digits}
use Rattle.build_flow.proofs.fault_lines.limit_lines.Goals as goal

pub returns-clause-pieces : goal.returns-clause-pieces
unfolding digits
returns-clause-pieces c = refl

pub returns-clause-edge_too_long : goal.returns-clause-edge_too_long
unfolding digits
returns-clause-edge_too_long c = refl

pub returns-clause-too_many_edges : goal.returns-clause-too_many_edges
unfolding digits
returns-clause-too_many_edges c = refl

pub returns-clause-nodes : goal.returns-clause-nodes
unfolding digits
returns-clause-nodes c = refl

pub returns-clause-edges : goal.returns-clause-edges
unfolding digits
returns-clause-edges c = refl

pub returns-clause-section : goal.returns-clause-section
unfolding digits
returns-clause-section c = refl
