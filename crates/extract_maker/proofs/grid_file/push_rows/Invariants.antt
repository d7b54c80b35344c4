use Rattle.std.proofs.Common.{◌≡◌, ◌++◌}
use Rattle.extract_maker.specs.Grid.{counted}
use Rattle.extract_maker.specs.GridFile.{row_file}
use Rattle.extract_maker.proofs.grid_file.push_rows.Given as goal

abbrev pub invariant-loop-row : goal.invariant-loop-row
invariant-loop-row l = l.file.items ≡ l.fn.file.items ++ row_file l.side (counted l.row)
