use Rattle.std.proofs.Common.{◌≡◌, ◌++◌, []}
use Rattle.extract_maker.specs.Grid.{counted}
use Rattle.extract_maker.specs.GridFile.{node_file, table_bytes}
use Rattle.extract_maker.proofs.grid_file.push_nodes.Given as goal

abbrev pub invariant-loop-row : goal.invariant-loop-row
invariant-loop-row l = record {
  written : l.file.items ≡ l.fn.file.items ++ node_file l.side (counted l.row);
  table : l.work.table.items ≡ table_bytes [];
}
