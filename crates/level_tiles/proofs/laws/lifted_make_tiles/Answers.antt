use Rattle.level_tiles.proofs.EntryWhole.{lifted_make_the_tiles}
use Rattle.level_tiles.proofs.EntryRecords.{records_are_told}
use Rattle.level_tiles.proofs.laws.lifted_make_tiles.Goals as goal

pub returns : goal.returns
returns c = lifted_make_the_tiles c.pieces_told_forward.ensures c.lifted_are_table.ensures c.starts_are_sums.ensures.each (records_are_told c.open_table_is_plain.ensures)
