use Rattle.way_tags.specs.Ways.{road_row}
use Rattle.way_tags.proofs.Deciding.{open_by_row}
use Rattle.way_tags.proofs.ways.open_modes.Goals as goal

pub returns-in-Some : goal.returns-in-Some
returns-in-Some c = open_by_row c.args.tags.now (road_row c.args.tags.now) c.in-Some.road c.decided_modes.result c.in-Some.ensures c.decided_modes.ensures
