use Rattle.osm_objects.proofs.LawBlocks.{block_objects, block_fault}
use Rattle.osm_objects.proofs.law.object_law.Goals as goal

pub returns-clause-objects : goal.returns-clause-objects
returns-clause-objects c = block_objects c.block_law.ensures.object

pub returns-clause-fault : goal.returns-clause-fault
returns-clause-fault c = block_fault c.block_law.ensures.object
