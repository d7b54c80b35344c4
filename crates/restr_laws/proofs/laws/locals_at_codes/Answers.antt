use Rattle.restr_laws.proofs.LocalLaws.{locals_law}
use Rattle.restr_laws.proofs.laws.locals_at_codes.Goals as goal

pub returns : goal.returns
returns c = locals_law
