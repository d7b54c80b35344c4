use Rattle.folder_spec.proofs.RowsLaw.{same_rows}
use Rattle.folder_spec.proofs.laws.rows_agree.Goals as goal

pub returns : goal.returns
returns c = same_rows
