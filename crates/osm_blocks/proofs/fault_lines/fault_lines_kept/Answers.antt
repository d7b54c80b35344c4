use Rattle.osm_blocks.proofs.FaultLinesKept.{frame_kept, message_kept, object_kept}
use Rattle.osm_blocks.proofs.fault_lines.fault_lines_kept.Goals as goal

pub returns-clause-frames : goal.returns-clause-frames
returns-clause-frames c = frame_kept

pub returns-clause-messages : goal.returns-clause-messages
returns-clause-messages c = message_kept

pub returns-clause-objects : goal.returns-clause-objects
returns-clause-objects c = object_kept
