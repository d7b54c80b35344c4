use Rattle.tile_machine.proofs.ClaimsStay.{claim_stays}
use Rattle.tile_machine.proofs.values.claims_stay.Goals as goal

pub returns : goal.returns
returns c s events tile by = claim_stays s events tile by
