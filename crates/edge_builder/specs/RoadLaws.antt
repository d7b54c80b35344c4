-- What holds of the roads of each extract.
use Rattle.std.specs.Prelude.{◌≡◌, None}
use Rattle.osm_model.specs.declared.extract.Extract.{Extract}
use Rattle.road_pieces.specs.declared.rows.Roads.{Roads}
use Rattle.road_pieces.specs.RoadsOf.{RoadsOf}
use Rattle.road_pieces.specs.Rows.{piece_rows, refusal}
use Rattle.edge_builder.specs.BaseRows.{AreRoads}

-- base tiles can be asked for of the roads of each extract that aren't refused
abbrev pub ExtractRoads : Type 0
ExtractRoads = (x : Extract) (roads : Roads) → RoadsOf x roads → refusal (piece_rows x) ≡ None → AreRoads roads.junctions roads.pieces
