use Rattle.tile_number_laws.proofs.EdgesPass.{counts_agree}
use Rattle.tile_number_laws.proofs.laws.numbered_counts_agree.Goals as goal

pub returns : goal.returns
returns c = counts_agree
