use Rattle.kept_rows.proofs.TableLaws.{plain_table}
use Rattle.kept_rows.proofs.laws.open_table_is_plain.Goals as goal

pub returns : goal.returns
returns c = plain_table
