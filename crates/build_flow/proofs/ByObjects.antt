-- What is built of an extract is made of its objects alone: its nodes, ways and relations.
use Rattle.std.proofs.Common.{◌≡◌, ℕ, ℤ, refl, sym, ap, ◌∙◌, List, map, Bool}
use Rattle.std.specs.Prelude.{pos, ◌||◌, ◌&&◌, nat_le, filter, sum_by}
use Rattle.std.specs.List.{list_any, flat_map, enumerate_from, slice_index_or}
use Rattle.std.specs.Option.{option_or}
use Rattle.osm_model.specs.declared.nodes.OsmNode.{OsmNode}
use Rattle.osm_model.specs.declared.ways.OsmWay.{OsmWay}
use Rattle.osm_model.specs.declared.extract.Extract.{Extract}
use Rattle.road_pieces.specs.declared.rows.Junction.{Junction}
use Rattle.road_pieces.specs.declared.rows.Piece.{Piece}
use Rattle.road_pieces.specs.Rules.{class_of, forward_access, backward_access, names_of}
use Rattle.road_pieces.specs.Runs.{way_runs, is_end, times, has_barrier}
use Rattle.road_pieces.specs.Rows.{junction_row, junction_rows, stops, spans, course, course_cm, piece_rows, refusal}
use Rattle.edge_builder.specs.BaseRows.{crowded}
use Rattle.tile_bytes.specs.declared.tile.Tile.{Tile}
use Rattle.level_tiles.specs.LevelTiles.{LiftedMakeTiles}
use Rattle.build_flow.specs.declared.faults.LimitFault.{LimitFault}
use Rattle.build_flow.specs.FolderFiles.{built_tiles, tile_file, some_limit, limit_of_cut, limit_of_base, tiles_limit, tiles_of_roads, limit_of_roads, limit_passed}
use Rattle.build_flow.specs.BuildLaws.{SameObjects, BuildsByObjects}

-- ---- the rows, by nodes and ways

abbrev runs_by : List OsmNode → List OsmWay → List (List ℤ)
runs_by nodes ways = flat_map (way_runs nodes) ways

abbrev joins_by : List OsmNode → List OsmWay → ℤ → Bool
joins_by nodes ways n =
    list_any (is_end n) (runs_by nodes ways) || nat_le 2 (sum_by (times n) (runs_by nodes ways)) || (has_barrier nodes n && nat_le 1 (sum_by (times n) (runs_by nodes ways)))

abbrev row_by : List OsmNode → OsmWay → ℕ → List ℤ → ℕ → ℕ → ℕ → Piece
row_by nodes way number run piece from to = record {
  key = record { way = way.id; run = number; piece = piece };
  start = slice_index_or run from (pos 0);
  end = slice_index_or run to (pos 0);
  shape = course nodes run from to;
  cm = course_cm (course nodes run from to);
  class = class_of way.tags;
  forward = forward_access way.tags;
  backward = backward_access way.tags;
  names = names_of way.tags;
}

abbrev pieces_by : List OsmNode → List OsmWay → List Piece
pieces_by nodes ways =
    flat_map (λ way. flat_map (λ (number, run). map (λ (piece, (from, to)). row_by nodes way number run piece from to) (enumerate_from 0 (spans (stops (joins_by nodes ways) 0 run)))) (enumerate_from 0 (way_runs nodes way))) ways

abbrev junctions_by : List OsmNode → List OsmWay → List Junction
junctions_by nodes ways = map junction_row (filter (λ n. joins_by nodes ways n.id) nodes)

pieces_are : (x : Extract) → piece_rows x ≡ pieces_by x.nodes x.ways
pieces_are x = refl

junctions_are : (x : Extract) → junction_rows x ≡ junctions_by x.nodes x.ways
junctions_are x = refl

same_pieces : (x y : Extract) → SameObjects x y → piece_rows x ≡ piece_rows y
same_pieces x y same = pieces_are x ∙ ((λ i. pieces_by (same.nodes i) (same.ways i)) ∙ sym (pieces_are y))

same_junctions : (x y : Extract) → SameObjects x y → junction_rows x ≡ junction_rows y
same_junctions x y same = junctions_are x ∙ ((λ i. junctions_by (same.nodes i) (same.ways i)) ∙ sym (junctions_are y))

-- ---- what is built

module _ (make : LiftedMakeTiles) where
  -- the tiles of the folder are those of the rows
  pub tiles_by_rows : (x : Extract) (asked : ℕ) → built_tiles x asked ≡ tiles_of_roads asked (junction_rows x) (piece_rows x)
  tiles_by_rows x asked = sym (make x asked)

  same_tiles : (x y : Extract) (asked : ℕ) → SameObjects x y → built_tiles x asked ≡ built_tiles y asked
  same_tiles x y asked same =
      tiles_by_rows x asked ∙ (λ i. tiles_of_roads asked (same_junctions x y same i) (same_pieces x y same i)) ∙ sym (tiles_by_rows y asked)

  -- the limit that an extract passes is that of its rows
  pub limit_by_rows : (x : Extract) (asked : ℕ) → limit_passed x asked ≡ option_or (some_limit limit_of_cut (refusal (piece_rows x))) (limit_of_roads asked (junction_rows x) (piece_rows x))
  limit_by_rows x asked =
      ap (λ tiles. option_or (some_limit limit_of_cut (refusal (piece_rows x))) (option_or (some_limit limit_of_base (crowded (junction_rows x) (piece_rows x))) (tiles_limit tiles))) (tiles_by_rows x asked)

  pub built_by_objects : BuildsByObjects
  built_by_objects x y asked same = record {
    files = ap (map tile_file) (same_tiles x y asked same);
    limits = λ i. option_or (some_limit limit_of_cut (refusal (same_pieces x y same i)))
        (option_or (some_limit limit_of_base (crowded (same_junctions x y same i) (same_pieces x y same i))) (tiles_limit (same_tiles x y asked same i)));
  }
