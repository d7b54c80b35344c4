use Rattle.road_pieces.proofs.HeadLemmas.{ends_with_last}
use Rattle.road_pieces.proofs.lines.ends_with.Goals as goal

pub returns-in-Some : goal.returns-in-Some
returns-in-Some c = ends_with_last c.args.places.now _ _ c.in-Some.ensures.value
