use Rattle.wire_read.proofs.MessageLaw.{is_message_one_way, packed_is_computed}
use Rattle.wire_read.proofs.fields.message_law.Goals as goal

pub returns-clause-messages : goal.returns-clause-messages
returns-clause-messages c = is_message_one_way

pub returns-clause-packed : goal.returns-clause-packed
returns-clause-packed c = packed_is_computed
