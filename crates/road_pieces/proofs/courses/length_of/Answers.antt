use Rattle.std.proofs.Common.{arith}
use Rattle.road_pieces.proofs.CourseLemmas.{summed_all}
use Rattle.road_pieces.proofs.courses.length_of.Goals as goal

pub returns : goal.returns
returns c = summed_all c.args.points.now _ _ (omega arith) c.loop-i.invariant
