use Rattle.fixed_geo.proofs.LengthLaws.{length_swap}
use Rattle.fixed_geo.proofs.lengths.same_both_ways.Goals as goal

pub returns : goal.returns
returns c = length_swap
