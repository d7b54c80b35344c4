use Rattle.std.proofs.Common.{arith}
use Rattle.tile_bytes.proofs.Answered.{entries_spelled}
use Rattle.tile_bytes.proofs.read.entries_in.Goals as goal

pub returns-clause-spelled : goal.returns-clause-spelled
returns-clause-spelled c =
    entries_spelled c.args.end c.args.count c.args.section.now c.read_entries.result
    (λ infos e. (c.entries_law.ensures.found c.args.end c.args.count c.args.section.now infos (λ i. omega (arith, c.type_inv.section i)) e).1) c.read_entries.ensures
