-- The whole build, from what its steps promise.
use Rattle.std.proofs.Common.{◌≡◌, ◌⊎◌, inl, inr, ℕ, refl, sym, ap, subst, ◌∙◌, List, map}
use Rattle.std.specs.Prelude.{All, Some, None, Result, Ok, Err, IfOk, IfErr, OnOk}
use Rattle.std.specs.Option.{option_or}
use Rattle.osm_model.specs.declared.extract.Extract.{Extract}
use Rattle.road_pieces.specs.declared.rows.Roads.{Roads}
use Rattle.road_pieces.specs.declared.faults.CutFault.{CutFault}
use Rattle.road_pieces.specs.declared.faults.CutFault.TheVariants as cut_faults
use Rattle.road_pieces.specs.Rows.{junction_rows, piece_rows, refusal}
use Rattle.road_pieces.specs.RoadsOf.{RoadsOf}
use Rattle.edge_builder.specs.BaseRows.{AreRoads}
use Rattle.edge_builder.specs.RoadLaws.{ExtractRoads}
use Rattle.kept_rows.specs.KeptRows.{KeptOwnNodes}
use Rattle.kept_checks.specs.KeptChecks.{IsSpellable, LiftedAreFinishable}
use Rattle.level_tiles.specs.LevelTiles.{LiftedMakeTiles}
use Rattle.build_flow.specs.declared.faults.FlowFault.{FlowFault}
use Rattle.build_flow.specs.declared.faults.FlowFault.TheVariants.{Limit, OutOfMemory}
use Rattle.build_flow.specs.Faults.{flow_of_cut}
use Rattle.build_flow.specs.FolderFiles.{tile_file, folder_files, some_limit, limit_of_cut, tiles_of_roads, limit_of_roads, limit_passed, CanBeBuilt, IsFault}
use Rattle.build_flow.proofs.ByObjects.{tiles_by_rows, limit_by_rows}

module _ (x : Extract) (asked : ℕ) where
  -- the roads of an extract can be built
  pub can_be_built : ExtractRoads → KeptOwnNodes → LiftedAreFinishable → (roads : Roads) → RoadsOf x roads → All IsSpellable roads.pieces → refusal (piece_rows x) ≡ None → CanBeBuilt asked roads.junctions roads.pieces
  can_be_built extract own finish roads of spell within =
      let rows : CanBeBuilt asked (junction_rows x) (piece_rows x) = record {
        roads = subst (λ js. AreRoads js (piece_rows x)) of.junctions (subst (AreRoads roads.junctions) of.pieces (extract x roads of within));
        own = own x asked;
        tiles = λ none room. finish x asked (subst (All IsSpellable) of.pieces spell) within none room;
      } in
      subst (λ js. CanBeBuilt asked js roads.pieces) (sym of.junctions) (subst (CanBeBuilt asked (junction_rows x)) (sym of.pieces) rows)

  module _ (make : LiftedMakeTiles) (roads : Roads) (of : RoadsOf x roads) where
    tiles_are : tiles_of_roads asked roads.junctions roads.pieces ≡ tiles_of_roads asked (junction_rows x) (piece_rows x)
    tiles_are = λ i. tiles_of_roads asked (of.junctions i) (of.pieces i)

    pub files_are : map tile_file (tiles_of_roads asked roads.junctions roads.pieces) ≡ folder_files x asked
    files_are = ap (map tile_file) (tiles_are ∙ sym (tiles_by_rows make x asked))

    -- the limit of the extract is that of its roads, where none of pieces is passed
    pub limit_is : refusal (piece_rows x) ≡ None → limit_of_roads asked roads.junctions roads.pieces ≡ limit_passed x asked
    limit_is within =
        (λ i. limit_of_roads asked (of.junctions i) (of.pieces i))
        ∙ ap (λ o. option_or (some_limit limit_of_cut o) (limit_of_roads asked (junction_rows x) (piece_rows x))) (sym within)
        ∙ sym (limit_by_rows make x asked)

  -- a fault of the cutting
  pub cut_fails : LiftedMakeTiles → (fault : CutFault) → (fault ≡ cut_faults.OutOfMemory) ⊎ (refusal (piece_rows x) ≡ Some fault) → IsFault (limit_passed x asked) (flow_of_cut fault)
  cut_fails make cut_faults.OutOfMemory due = tt
  cut_fails make (cut_faults.TooManyPieces count) (inl is) = absurd cc
  cut_fails make (cut_faults.TooManyPieces count) (inr is) =
      limit_by_rows make x asked ∙ ap (λ o. option_or (some_limit limit_of_cut o) (limit_of_roads asked (junction_rows x) (piece_rows x))) is
  cut_fails make (cut_faults.EdgeTooLong way run piece cm) (inl is) = absurd cc
  cut_fails make (cut_faults.EdgeTooLong way run piece cm) (inr is) =
      limit_by_rows make x asked ∙ ap (λ o. option_or (some_limit limit_of_cut o) (limit_of_roads asked (junction_rows x) (piece_rows x))) is
