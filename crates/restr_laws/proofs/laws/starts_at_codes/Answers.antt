use Rattle.restr_laws.proofs.StartLaws.{starts_law}
use Rattle.restr_laws.proofs.laws.starts_at_codes.Goals as goal

pub returns : goal.returns
returns c = starts_law
