use Rattle.std.proofs.lemmas.Result.{IfOk-weaker}
use Rattle.command_words.proofs.rows.add.Goals as goal

pub returns : goal.returns
returns c = IfOk-weaker c.arg.result _ _ (λ r h. h.shape c.requires) c.arg.ensures
