use Rattle.restr_laws.proofs.CodeLaws.{stored_law}
use Rattle.restr_laws.proofs.laws.stored_at_codes.Goals as goal

pub returns : goal.returns
returns c = stored_law
