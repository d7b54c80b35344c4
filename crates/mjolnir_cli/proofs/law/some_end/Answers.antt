use Rattle.mjolnir_cli.proofs.SomeEnd.{some_end}
use Rattle.mjolnir_cli.proofs.law.some_end.Goals as goal

pub returns : goal.returns
returns c = λ request bytes. some_end request bytes (c.framing_law.ensures.framed bytes 0) (c.reading_law.ensures.read bytes) (c.reading_law.ensures.extract bytes)
