use Rattle.folder_spec.proofs.RowsLaw.{rows_in_order}
use Rattle.folder_spec.proofs.laws.rows_in_order.Goals as goal

pub returns : goal.returns
returns c = rows_in_order
