use Rattle.std.proofs.Common.{◌≡◌}
use Rattle.extract_maker.specs.GridFile.{data_bytes, row_block}
use Rattle.extract_maker.proofs.Written.{blocks_more}
use Rattle.extract_maker.proofs.grid_file.push_rows.Goals as goal

pub loop-row-preserved : goal.loop-row-preserved
loop-row-preserved c = blocks_more (λ row. data_bytes (row_block c.args.side row)) c.args.file.now.items _ _ c.loop-row.row c.loop-row.invariant c.in_ok-push_row.ensures
