use Rattle.std.proofs.Common.{◌≡◌, ℕ, List, [], ◌++◌, ◌∙◌, ap, arith}
use Rattle.extract_maker.specs.Grid.{node_row}
use Rattle.extract_maker.specs.GridFile.{data_bytes, block_bytes, table_bytes, node_block}
use Rattle.extract_maker.proofs.GridContent.{empty_table_few, node_object_few}
use Rattle.extract_maker.proofs.Written.{blocks_more}
use Rattle.extract_maker.proofs.grid_file.push_nodes.Goals as goal

pub push_data-requires-clause-table : goal.push_data-requires-clause-table
push_data-requires-clause-table c = rw (c.as_slice.ensures.value, c.loop-row.invariant.table) (omega (arith, empty_table_few))

pub push_data-requires-clause-object : goal.push_data-requires-clause-object
push_data-requires-clause-object c = rw (c.as_slice-in-loop-row.ensures.value, c.in_ok-write_node_row.ensures) (node_object_few c.args.side c.loop-row.row c.requires)

pub loop-row-preserved : goal.loop-row-preserved
loop-row-preserved c =
    let file = c.loop-row.file.items in
    record {
      written = blocks_more (λ row. data_bytes (node_block c.args.side row)) c.args.file.now.items file _ c.loop-row.row c.loop-row.invariant.written
          (c.in_ok-push_data.ensures
          ∙ ap (λ (l : List ℕ). file ++ data_bytes (block_bytes l 2 c.as_slice-in-loop-row.result.now)) (c.as_slice.ensures.value ∙ c.loop-row.invariant.table)
          ∙ ap (λ (l : List ℕ). file ++ data_bytes (block_bytes (table_bytes []) 2 l)) (c.as_slice-in-loop-row.ensures.value ∙ c.in_ok-write_node_row.ensures));
      table = c.loop-row.invariant.table;
    }
