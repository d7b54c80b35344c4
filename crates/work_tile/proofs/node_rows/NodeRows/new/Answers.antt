use Rattle.std.proofs.Common.{refl}
use Rattle.work_tile.specs.PackedRows.{packed_rows}
use Rattle.work_tile.proofs.node_rows.NodeRows.new.Goals as goal

pub returns : goal.returns
unfolding packed_rows
returns c = refl
