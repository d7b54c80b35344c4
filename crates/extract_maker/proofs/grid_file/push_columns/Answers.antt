use Rattle.std.proofs.Common.{◌≡◌}
use Rattle.extract_maker.specs.GridFile.{data_bytes, column_block}
use Rattle.extract_maker.proofs.Written.{blocks_more}
use Rattle.extract_maker.proofs.grid_file.push_columns.Goals as goal

pub loop-column-preserved : goal.loop-column-preserved
loop-column-preserved c = blocks_more (λ column. data_bytes (column_block c.args.side column)) c.args.file.now.items _ _ c.loop-column.column c.loop-column.invariant c.in_ok-push_column.ensures
