use Rattle.edge_builder.proofs.RoadLemmas.{roads_are}
use Rattle.edge_builder.proofs.laws.extract_roads.Goals as goal

pub returns : goal.returns
returns c = roads_are
