use Rattle.mjolnir_cli.proofs.OneEnd.{one_end}
use Rattle.mjolnir_cli.proofs.law.one_end.Goals as goal

pub returns : goal.returns
returns c = λ request bytes. one_end request bytes (c.framing_law.ensures.one_way bytes 0) (c.reading_law.ensures.one_way bytes) c.builds_by_objects.ensures
