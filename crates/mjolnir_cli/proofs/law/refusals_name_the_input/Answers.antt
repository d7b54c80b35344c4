use Rattle.mjolnir_cli.proofs.Refusals.{refusals}
use Rattle.mjolnir_cli.proofs.law.refusals_name_the_input.Goals as goal

pub returns : goal.returns
returns c = λ command bytes failure refused. refusals c.reading_law.ensures.of_bytes command bytes failure refused
