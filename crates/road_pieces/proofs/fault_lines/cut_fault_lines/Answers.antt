use Rattle.std.proofs.Common.{refl}
use Rattle.std.specs.Fmt.{digits}
use Rattle.road_pieces.proofs.fault_lines.cut_fault_lines.Goals as goal

pub returns-clause-pieces : goal.returns-clause-pieces
unfolding digits
returns-clause-pieces c = refl

pub returns-clause-edge_too_long : goal.returns-clause-edge_too_long
unfolding digits
returns-clause-edge_too_long c = refl

pub returns-clause-out_of_memory : goal.returns-clause-out_of_memory
unfolding digits
returns-clause-out_of_memory c = refl
