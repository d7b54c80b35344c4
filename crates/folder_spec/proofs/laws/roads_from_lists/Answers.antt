use Rattle.folder_spec.proofs.BaseRoads.{base_gives_roads}
use Rattle.folder_spec.proofs.laws.roads_from_lists.Goals as goal

pub returns : goal.returns
returns c = base_gives_roads
