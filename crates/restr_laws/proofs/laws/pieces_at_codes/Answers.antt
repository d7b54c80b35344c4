use Rattle.restr_laws.proofs.PlaceLaws.{places_law}
use Rattle.restr_laws.proofs.laws.pieces_at_codes.Goals as goal

pub returns : goal.returns
returns c = places_law
