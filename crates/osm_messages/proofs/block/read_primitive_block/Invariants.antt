use Rattle.osm_messages.specs.Blocks.{block_step, block_in}
use Rattle.osm_messages.specs.Seen.{seen_block}
use Rattle.osm_messages.proofs.Walks.{Going, left_of}
use Rattle.osm_messages.proofs.block.read_primitive_block.Given as goal

abbrev pub invariant-loop-field : goal.invariant-loop-field
invariant-loop-field l =
    Going (block_in l.at l.bytes) (left_of block_step (seen_block l.block) l.field-iterator) l.field-iterator
