-- The law, from what holds of roads, of tables and of pieces.
use Rattle.std.proofs.Common.{refl, sym, subst, List, length}
use Rattle.std.specs.Prelude.{All}
use Rattle.osm_model.specs.declared.extract.Extract.{Extract}
use Rattle.road_pieces.specs.declared.rows.Roads.{Roads}
use Rattle.road_pieces.specs.Runs.{all_runs}
use Rattle.road_pieces.specs.Rows.{junction_rows, piece_rows, routable_ways, missing_refs}
use Rattle.work_tile.specs.WorkRows.{WorkRows}
use Rattle.edge_builder.specs.BaseRows.{AreRoads}
use Rattle.edge_builder.specs.BaseStages.{PiecesToldForward}
use Rattle.edge_builder.specs.RoadLaws.{ExtractRoads}
use Rattle.tile_numbers.specs.Limits.{HasRoom}
use Rattle.tile_finish.specs.FinishedTiles.{AreFinishable}
use Rattle.kept_rows.specs.KeptRows.{LiftedAreTable, OpenTableIsPlain}
use Rattle.kept_checks.specs.KeptChecks.{LiftedAreFinishable}
use Rattle.kept_checks.proofs.EdgeFacts.{AreToldSo}
use Rattle.kept_checks.proofs.LimitFacts.{pieces_short, base_few}
use Rattle.kept_checks.proofs.TileFacts.{table_finishable}

abbrev roads_of : Extract → Roads
roads_of x = record { junctions = junction_rows x; pieces = piece_rows x; ways = routable_ways x; runs = length (all_runs x); missing = missing_refs x }

pub lifted_law : ExtractRoads → PiecesToldForward → LiftedAreTable → OpenTableIsPlain → LiftedAreFinishable
lifted_law roads_law told_law table_law plain_law x asked spell accepted none room =
    let told = told_law x in
    let roads : AreRoads (junction_rows x) (piece_rows x) = roads_law x (roads_of x) (record { junctions = refl; pieces = refl; ways = refl; runs = refl; missing = refl }) accepted in
    let so : AreToldSo x = record { few = base_few x told roads none; short = pieces_short x told roads; forward = told } in
    let table = table_law x asked in
    subst (λ (ts : List WorkRows). AreFinishable ts (piece_rows x)) (sym table) (table_finishable x asked so (plain_law x asked) spell (subst (All HasRoom) table room))
