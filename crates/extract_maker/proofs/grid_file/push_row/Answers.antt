use Rattle.std.proofs.Common.{◌≡◌, ℕ, ℤ, List, ◌+◌, ◌*◌, ◌++◌, ◌∙◌, ap, codes, arith}
use Rattle.std.proofs.lemmas.Result.{IfOk-equal}
use Rattle.extract_maker.specs.Grid.{row_class, row_way_id}
use Rattle.extract_maker.specs.GridFile.{data_bytes, block_bytes, table_bytes, road_texts, road_bytes}
use Rattle.extract_maker.proofs.GridContent.{row_table_few, road_object_few}
use Rattle.extract_maker.proofs.Written.{row_refs}
use Rattle.extract_maker.proofs.grid_file.push_row.Goals as goal

pub push_data-requires-clause-table : goal.push_data-requires-clause-table
push_data-requires-clause-table c =
    rw (c.as_slice.ensures.value, c.in_ok-write_road_table.ensures, c.class_of_row.ensures, c.as_str.ensures.value, c.in_ok-write_name.ensures) (row_table_few c.args.row (omega arith))

pub push_data-requires-clause-object : goal.push_data-requires-clause-object
push_data-requires-clause-object c =
    rw (c.as_slice-2.ensures.value, c.in_ok-write_road.ensures) (road_object_few (row_way_id c.args.row) (c.args.row * c.args.side + 1) (1) c.args.side c.requires.side)

pub returns : goal.returns
returns c =
    IfOk-equal c.push_data.result _ _ _ c.push_data.ensures
    (rw (c.as_slice.ensures.value, c.in_ok-write_road_table.ensures, c.class_of_row.ensures, c.as_str.ensures.value, c.in_ok-write_name.ensures, c.as_slice-2.ensures.value, c.in_ok-write_road.ensures)
    (ap (λ (zs : List ℤ). c.args.file.now.items ++ data_bytes (block_bytes (table_bytes (road_texts (row_class c.args.row) (codes "R") c.args.row)) 3 (road_bytes (row_way_id c.args.row) zs))) (row_refs c.args.side c.args.row)))
