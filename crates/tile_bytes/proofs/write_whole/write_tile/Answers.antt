use Rattle.std.proofs.Common.{◌∙◌}
use Rattle.tile_bytes.proofs.WriteLaws.{counts_are, none_above}
use Rattle.tile_bytes.proofs.write_whole.write_tile.Goals as goal

pub returns-in-Some-clause-fault : goal.returns-in-Some-clause-fault
returns-in-Some-clause-fault c =
    let s = c.sizes_of_tile-sizes.result in
    let e = c.sizes_of_tile-sizes.ensures in
    c.section_fault.ensures c.args.tile.now (counts_are c.args.tile.now s.chains s.sequences s.infos s.texts c.too_large.result e.chains e.sequences e.infos e.texts c.too_large.ensures ∙ c.in-Some.is)

pub spelled-requires-clause-fits : goal.spelled-requires-clause-fits
spelled-requires-clause-fits c =
    let s = c.sizes_of_tile-sizes.result in
    let e = c.sizes_of_tile-sizes.ensures in
    none_above c.args.tile.now (counts_are c.args.tile.now s.chains s.sequences s.infos s.texts c.too_large.result e.chains e.sequences e.infos e.texts c.too_large.ensures ∙ c.in-None.is)
