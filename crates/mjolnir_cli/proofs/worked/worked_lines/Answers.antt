use Rattle.std.proofs.Common.{refl}
use Rattle.std.specs.Fmt.{digits}
use Rattle.mjolnir_cli.proofs.worked.worked_lines.Goals as goal

pub returns : goal.returns
unfolding digits
returns c = record { blob = refl }
