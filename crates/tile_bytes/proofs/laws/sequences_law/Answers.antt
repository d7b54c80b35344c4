use Rattle.tile_bytes.proofs.SequenceLaws.{sequences_filling}
use Rattle.tile_bytes.proofs.laws.sequences_law.Goals as goal

pub returns : goal.returns
returns c = sequences_filling
