use Rattle.build_flow.proofs.TileWalks.{built_have_walks}
use Rattle.build_flow.proofs.laws.built_walks.Goals as goal

pub returns : goal.returns
returns c = built_have_walks c.roads_from_lists.ensures c.folder_walks_agree.ensures
