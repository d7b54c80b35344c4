use Rattle.restr_laws.proofs.CodeLaws.{masks_law}
use Rattle.restr_laws.proofs.laws.masks_at_codes.Goals as goal

pub returns : goal.returns
returns c = masks_law
