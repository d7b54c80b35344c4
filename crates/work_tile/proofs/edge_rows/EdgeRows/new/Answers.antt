use Rattle.std.proofs.Common.{refl}
use Rattle.work_tile.specs.PackedRows.{packed_rows}
use Rattle.work_tile.proofs.edge_rows.EdgeRows.new.Goals as goal

pub returns : goal.returns
unfolding packed_rows
returns c = refl
