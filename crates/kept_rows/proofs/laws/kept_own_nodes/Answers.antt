use Rattle.kept_rows.proofs.TableLaws.{kept_own}
use Rattle.kept_rows.proofs.laws.kept_own_nodes.Goals as goal

pub returns : goal.returns
returns c = kept_own c.base_stage.ensures c.keep_gives_stage.ensures
