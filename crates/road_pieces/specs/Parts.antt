-- Pieces as they are made: from places of nodes.
use Rattle.std.specs.Prelude.{ℕ, ◌-◌, pos, List, [], length, map, slice_index}
use Rattle.std.specs.List.{slice_index_or}
use Rattle.fixed_geo.specs.declared.points.Point.{Point}
use Rattle.osm_model.specs.declared.nodes.OsmNode.{OsmNode}
use Rattle.osm_model.specs.declared.ways.OsmWay.{OsmWay}
use Rattle.osm_model.specs.declared.extract.Extract.{Extract}
use Rattle.road_pieces.specs.declared.rows.Piece.{Piece}
use Rattle.road_pieces.specs.Rules.{class_of, forward_access, backward_access, names_of}
use Rattle.road_pieces.specs.Lengths.{point_of}
use Rattle.road_pieces.specs.Rows.{course_cm, run_rows}
use Rattle.road_pieces.specs.Lines.{Line, id_at, no_node}

-- where the node at a place is
abbrev pub point_at : List OsmNode → ℕ → Point
point_at nodes place = point_of (slice_index_or nodes place no_node)

-- the piece over the nodes at these places
abbrev pub part_row : List OsmNode → OsmWay → ℕ → ℕ → List ℕ → Piece
part_row nodes way number piece places = record {
  key = record { way = way.id; run = number; piece = piece };
  start = id_at nodes (slice_index places 0);
  end = id_at nodes (slice_index places (length places - 1));
  shape = map (point_at nodes) places;
  cm = course_cm (map (point_at nodes) places);
  class = class_of way.tags;
  forward = forward_access way.tags;
  backward = backward_access way.tags;
  names = names_of way.tags;
}

-- a way; which one doesn't matter
abbrev pub no_way : OsmWay
no_way = record { id = pos 0; tags = []; refs = [] }

-- the pieces of a line
abbrev pub line_rows : Extract → Line → List Piece
line_rows x line = run_rows x (slice_index_or x.ways line.way no_way) line.number (map (id_at x.nodes) line.places)
