use Rattle.std.proofs.Common.{ap}
use Rattle.osm_objects.specs.Sizes.{parts_in}
use Rattle.osm_blocks.proofs.draft.Draft.new.Goals as goal

pub returns-clause-none : goal.returns-clause-none
returns-clause-none c = ap parts_in c.new.ensures
