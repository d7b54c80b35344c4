use Rattle.tile_bytes.proofs.ChainLaws.{chains_section}
use Rattle.tile_bytes.proofs.laws.chains_law.Goals as goal

pub returns : goal.returns
returns c = chains_section
