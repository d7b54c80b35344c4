use Rattle.kept_rows.proofs.TableLaws.{lifted_table}
use Rattle.kept_rows.proofs.laws.lifted_are_table.Goals as goal

pub returns : goal.returns
returns c = lifted_table c.base_stage.ensures c.keep_gives_stage.ensures
