use Rattle.std.proofs.Common.{◌≡◌, ◌++◌}
use Rattle.extract_maker.specs.Grid.{counted}
use Rattle.extract_maker.specs.GridFile.{column_file}
use Rattle.extract_maker.proofs.grid_file.push_columns.Given as goal

abbrev pub invariant-loop-column : goal.invariant-loop-column
invariant-loop-column l = l.file.items ≡ l.fn.file.items ++ column_file l.side (counted l.column)
