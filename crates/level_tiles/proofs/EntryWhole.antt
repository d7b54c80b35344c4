-- The tiles that lifted rows make are those of the folder, where their records are.
use Rattle.std.proofs.Common.{◌≡◌, ℕ, ◌∙◌, refl, sym, ap, List, [], map}
use Rattle.graph_id.specs.GraphId.{value_of}
use Rattle.osm_model.specs.declared.extract.Extract.{Extract}
use Rattle.tile_graph.specs.Tiles.{TileFields}
use Rattle.road_pieces.specs.Rows.{piece_rows}
use Rattle.road_pieces.proofs.Members.{IsIn}
use Rattle.folder_spec.specs.Tables.{TileRows, links_of}
use Rattle.folder_spec.specs.Records.{tile_from}
use Rattle.work_tile.specs.WorkRows.{WorkRows}
use Rattle.tile_numbers.specs.Records.{edges_of_rows, node_records_of, edge_records_of, transitions_of_rows}
use Rattle.edge_builder.specs.ExtractRows.{node_tile}
use Rattle.edge_builder.specs.BaseStages.{PiecesToldForward}
use Rattle.tile_finish.specs.FinishedTiles.{entry_offset, finished_tile}
use Rattle.kept_rows.specs.KeptRows.{open_table, rows_of_table, LiftedAreTable}
use Rattle.level_tiles.specs.LevelTiles.{told_so_far, tile_of_fields, LiftedMakeTiles}
use Rattle.level_tiles.proofs.PieceLists.{map_within}
use Rattle.level_tiles.proofs.EntryLaws.{StartsAreSums, entries_told, texts_told, offsets_told}

-- the tile of the folder with these rows, and the work rows of all of them
abbrev pub tile_so_far : Extract → ℕ → TileRows → TileFields
tile_so_far x asked rows = tile_from x (told_so_far x asked) (open_table x asked) (node_tile x) rows

abbrev pub works_of_table : Extract → ℕ → List WorkRows
works_of_table x asked = map (rows_of_table x) (open_table x asked).tiles

-- the records of the work rows are those of the tile, and it has no chains and sequences
pub record HasItsRecords (x : Extract) (asked : ℕ) (rows : TileRows) : Type 0 where
  pub nodes : node_records_of (works_of_table x asked) (rows_of_table x rows) ≡ (tile_so_far x asked rows).nodes
  pub edges : edge_records_of (works_of_table x asked) (rows_of_table x rows) (map (λ l. (told_so_far x asked).info rows.level rows.tile l.first) (links_of rows)) ≡ (tile_so_far x asked rows).edges
  pub transitions : transitions_of_rows (works_of_table x asked) (rows_of_table x rows) ≡ (tile_so_far x asked rows).transitions
  pub chains : (tile_so_far x asked rows).chains ≡ []
  pub sequences : (tile_so_far x asked rows).sequences ≡ []

abbrev pub RecordsAreTold : Type 0
RecordsAreTold = (x : Extract) (asked : ℕ) (rows : TileRows) → IsIn (open_table x asked).tiles rows → HasItsRecords x asked rows

tile_is : (x : Extract) (asked : ℕ) → PiecesToldForward → StartsAreSums → (rows : TileRows) → IsIn (open_table x asked).tiles rows → HasItsRecords x asked rows → finished_tile asked (piece_rows x) (works_of_table x asked) (rows_of_table x rows) ≡ tile_of_fields (tile_so_far x asked rows)
tile_is x asked forward sums rows among has =
    let offsets = offsets_told x asked (forward x) rows among sums in
    let edges : edge_records_of (works_of_table x asked) (rows_of_table x rows) (map (entry_offset (piece_rows x) (rows_of_table x rows)) (edges_of_rows (rows_of_table x rows))) ≡ (tile_so_far x asked rows).edges =
    ap (edge_records_of (works_of_table x asked) (rows_of_table x rows)) offsets ∙ has.edges in
    let chains = sym has.chains in
    let sequences = sym (ap (map (λ s. record { edges = s.0; modes = s.1 })) has.sequences) in
    let infos = entries_told x asked (forward x) rows among in
    let texts = texts_told x asked (forward x) rows among in
    λ i. record {
      id = value_of rows.level rows.tile 0;
      modes = asked;
      nodes = has.nodes i;
      edges = edges i;
      transitions = has.transitions i;
      chains = chains i;
      sequences = sequences i;
      infos = infos i;
      texts = texts i;
    }

pub lifted_make_the_tiles : PiecesToldForward → LiftedAreTable → StartsAreSums → RecordsAreTold → LiftedMakeTiles
lifted_make_the_tiles forward table sums records x asked =
    ap (λ (works : List WorkRows). map (finished_tile asked (piece_rows x) works) works) (table x asked)
    ∙ map_within (finished_tile asked (piece_rows x) (works_of_table x asked)) (rows_of_table x) (λ rows. tile_of_fields (tile_so_far x asked rows)) (open_table x asked).tiles
    (λ rows h. tile_is x asked forward sums rows h (records x asked rows h))
    ∙ sym (map_within tile_of_fields (tile_so_far x asked) (λ rows. tile_of_fields (tile_so_far x asked rows)) (open_table x asked).tiles (λ rows h. refl))
