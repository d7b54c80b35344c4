use Rattle.std.proofs.Common.{◌≡◌}
use Rattle.extract_maker.specs.Grid.{counted}
use Rattle.extract_maker.specs.GridFile.{header_file, node_file, row_file, column_file, turn_file, grid_file}
use Rattle.extract_maker.proofs.Written.{whole_written}
use Rattle.extract_maker.proofs.grid_file.make_file.Goals as goal

pub returns : goal.returns
unfolding grid_file
returns c =
    rw (c.in_ok-push_turns.ensures, c.in_ok-push_columns.ensures, c.in_ok-push_rows.ensures, c.in_ok-push_nodes.ensures, c.in_ok-push_header.ensures, c.in_ok-file.ensures.items)
    (whole_written header_file (node_file c.args.side (counted c.args.side)) (row_file c.args.side (counted c.args.side)) (column_file c.args.side (counted c.args.side)) (turn_file c.args.side 0 c.args.side c.args.seed))
