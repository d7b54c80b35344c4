use Rattle.std.proofs.Common.{refl}
use Rattle.osm_messages.proofs.PackedFaults.{no_fault}
use Rattle.osm_messages.proofs.packed.check_packed.Goals as goal

pub returns-then-ends_often-clause-spelled : goal.returns-then-ends_often-clause-spelled
returns-then-ends_often-clause-spelled c =
    no_fault c.args.at c.args.bytes.now (c.if-ends_whole.ensures refl) (c.if-ends_often.ensures refl)
