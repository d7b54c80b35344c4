use Rattle.tile_machine.proofs.Bridges.{part_read}
use Rattle.tile_machine.proofs.plain.PlainPartsPartsPart.part.Goals as goal

pub returns-in-Ok-clause-part : goal.returns-in-Ok-clause-part
returns-in-Ok-clause-part g c ps shown =
    part_read (g.P.Phase.readable c.args.self.now.phase.now) c.args.self.now.tiles.now c.args.j c.index-self-j.result c.in-Ok.part ps c.requires c.in-Ok.ensures shown
