use Rattle.restr_laws.proofs.PlaceLaws.{kept_law}
use Rattle.restr_laws.proofs.laws.kept_at_codes.Goals as goal

pub returns : goal.returns
returns c = kept_law
