use Rattle.std.proofs.Common.{◌≡◌, ◌∙◌, sym}
use Rattle.std.proofs.lemmas.Result.{IfOk-equal}
use Rattle.extract_maker.proofs.Written.{empty_table}
use Rattle.extract_maker.proofs.tables.write_empty_table.Goals as goal

pub returns : goal.returns
returns c = IfOk-equal c.push_bytes.result _ _ _ c.push_bytes.ensures (rw c.clear.ensures.items empty_table)
