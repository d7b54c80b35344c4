use Rattle.std.proofs.Common.{sym}
use Rattle.build_flow.proofs.faults.LimitFaultDisplay.fmt.Goals as goal

pub returns-in-TileFull-clause-writes : goal.returns-in-TileFull-clause-writes
returns-in-TileFull-clause-writes g c = λ plain ok. rw (c.in-TileFull.is, sym c.what_name.ensures) (c.write-in-TileFull.ensures.writes plain ok)
