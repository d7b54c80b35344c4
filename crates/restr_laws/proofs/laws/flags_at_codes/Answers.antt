use Rattle.restr_laws.proofs.CodeLaws.{flags_law}
use Rattle.restr_laws.proofs.laws.flags_at_codes.Goals as goal

pub returns : goal.returns
returns c = flags_law
