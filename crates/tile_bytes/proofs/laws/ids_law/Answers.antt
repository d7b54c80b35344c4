use Rattle.tile_bytes.proofs.IdLaws.{ids_section}
use Rattle.tile_bytes.proofs.laws.ids_law.Goals as goal

pub returns : goal.returns
returns c = ids_section
