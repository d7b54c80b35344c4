use Rattle.std.proofs.Common.{◌≡◌, pos, refl, arith}
use Rattle.std.proofs.lemmas.Result.{IfOk-equal}
use Rattle.extract_maker.specs.Grid.{turn_id, row_way_id, grid_node_id, column_way_id}
use Rattle.extract_maker.proofs.GridContent.{turn_table_few, turn_few}
use Rattle.extract_maker.proofs.grid_file.push_turn.Goals as goal

pub push_data-requires-clause-table : goal.push_data-requires-clause-table
push_data-requires-clause-table c = rw (c.as_slice.ensures.value, c.in_ok-write_turn_table.ensures) (omega (arith, turn_table_few c.args.kind.now))

pub push_data-requires-clause-object : goal.push_data-requires-clause-object
push_data-requires-clause-object c =
    rw (c.as_slice-2.ensures.value, c.in_ok-write_turn.ensures)
    (omega (arith, turn_few (turn_id c.args.place) (pos (row_way_id c.args.place)) (pos (grid_node_id c.args.side c.args.place c.args.place)) (pos (column_way_id c.args.place))))

pub returns : goal.returns
returns c =
    IfOk-equal c.push_data.result _ _ _ c.push_data.ensures
    (rw (c.as_slice.ensures.value, c.in_ok-write_turn_table.ensures, c.as_slice-2.ensures.value, c.in_ok-write_turn.ensures) refl)
