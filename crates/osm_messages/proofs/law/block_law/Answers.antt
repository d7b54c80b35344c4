use Rattle.osm_messages.proofs.MeantNumbers.{header_means, object_means}
use Rattle.osm_messages.proofs.MeantBlocks.{block_means}
use Rattle.osm_messages.proofs.FirstInBlocks.{block_fault, header_fault, object_fault}
use Rattle.osm_messages.proofs.law.block_law.Goals as goal

pub returns-clause-block : goal.returns-clause-block
returns-clause-block c = block_means

pub returns-clause-header : goal.returns-clause-header
returns-clause-header c = header_means

pub returns-clause-object : goal.returns-clause-object
returns-clause-object c = object_means

pub returns-clause-block_fault : goal.returns-clause-block_fault
returns-clause-block_fault c = block_fault

pub returns-clause-header_fault : goal.returns-clause-header_fault
returns-clause-header_fault c = header_fault

pub returns-clause-object_fault : goal.returns-clause-object_fault
returns-clause-object_fault c = object_fault
