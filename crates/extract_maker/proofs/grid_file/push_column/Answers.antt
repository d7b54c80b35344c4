use Rattle.std.proofs.Common.{◌≡◌, ℕ, ℤ, List, ◌+◌, ◌*◌, ◌++◌, ◌∙◌, ap, codes, arith}
use Rattle.std.proofs.lemmas.Result.{IfOk-equal}
use Rattle.extract_maker.specs.Grid.{column_class, column_way_id}
use Rattle.extract_maker.specs.GridFile.{data_bytes, block_bytes, table_bytes, road_texts, road_bytes}
use Rattle.extract_maker.proofs.GridContent.{column_table_few, road_object_few}
use Rattle.extract_maker.proofs.Written.{column_refs}
use Rattle.extract_maker.proofs.grid_file.push_column.Goals as goal

pub push_data-requires-clause-table : goal.push_data-requires-clause-table
push_data-requires-clause-table c =
    rw (c.as_slice.ensures.value, c.in_ok-write_road_table.ensures, c.class_of_column.ensures, c.as_str.ensures.value, c.in_ok-write_name.ensures) (column_table_few c.args.column (omega arith))

pub push_data-requires-clause-object : goal.push_data-requires-clause-object
push_data-requires-clause-object c =
    rw (c.as_slice-2.ensures.value, c.in_ok-write_road.ensures) (road_object_few (column_way_id c.args.column) (c.args.column + 1) (c.args.side) c.args.side c.requires.side)

pub returns : goal.returns
returns c =
    IfOk-equal c.push_data.result _ _ _ c.push_data.ensures
    (rw (c.as_slice.ensures.value, c.in_ok-write_road_table.ensures, c.class_of_column.ensures, c.as_str.ensures.value, c.in_ok-write_name.ensures, c.as_slice-2.ensures.value, c.in_ok-write_road.ensures)
    (ap (λ (zs : List ℤ). c.args.file.now.items ++ data_bytes (block_bytes (table_bytes (road_texts (column_class c.args.column) (codes "C") c.args.column)) 3 (road_bytes (column_way_id c.args.column) zs))) (column_refs c.args.side c.args.column)))
