use Rattle.build_flow.proofs.ByObjects.{built_by_objects}
use Rattle.build_flow.proofs.laws.builds_by_objects.Goals as goal

pub returns : goal.returns
returns c = built_by_objects c.lifted_make_tiles.ensures
