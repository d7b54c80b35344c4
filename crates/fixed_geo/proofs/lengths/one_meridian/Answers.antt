use Rattle.fixed_geo.proofs.LengthLaws.{no_way, one_meridian}
use Rattle.fixed_geo.proofs.lengths.one_meridian.Goals as goal

pub returns-clause-no_way : goal.returns-clause-no_way
returns-clause-no_way c = no_way

pub returns-clause-as_far : goal.returns-clause-as_far
returns-clause-as_far c = one_meridian
