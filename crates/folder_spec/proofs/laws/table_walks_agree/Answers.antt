use Rattle.folder_spec.proofs.Whole.{same_table_walks}
use Rattle.folder_spec.proofs.laws.table_walks_agree.Goals as goal

pub returns : goal.returns
returns c = same_table_walks
