-- How pieces are kept: their shapes and names stand among those of all pieces.
use Rattle.std.specs.Prelude.{◌≤◌, ℕ, List, length, map, slice_range, All}
use Rattle.fixed_geo.specs.declared.points.Point.{Point}
use Rattle.osm_model.specs.declared.nodes.OsmNode.{OsmNode}
use Rattle.road_pieces.specs.declared.rows.Piece.{Piece}
use Rattle.road_pieces.specs.declared.pieces.PieceHead.{PieceHead}
use Rattle.road_pieces.specs.declared.pieces.PieceRow.{PieceRow}
use Rattle.road_pieces.specs.Rows.{course_cm}
use Rattle.road_pieces.specs.Parts.{point_at}

-- the piece of a head, a shape, a length and names
abbrev pub headed : PieceHead → List Point → ℕ → List (List ℕ) → Piece
headed head shape cm names = record {
  key = head.key;
  start = head.start;
  end = head.end;
  shape = shape;
  cm = cm;
  class = head.class;
  forward = head.forward;
  backward = head.backward;
  names = names;
}

-- the piece of a row
abbrev pub piece_of : List Point → List (List ℕ) → PieceRow → Piece
piece_of points names row =
    headed row.head (slice_range points row.shape_from row.shape_to) row.cm (slice_range names row.names_from row.names_to)

-- the piece over the nodes at these places
abbrev pub piece_over : List OsmNode → PieceHead → List ℕ → List (List ℕ) → Piece
piece_over nodes head places names =
    headed head (map (point_at nodes) places) (course_cm (map (point_at nodes) places)) names

-- the row lies within so many points and names
pub record IsWithin (points names : ℕ) (row : PieceRow) : Type 0 where
  pub shape_rises : row.shape_from ≤ row.shape_to
  pub shape_inside : row.shape_to ≤ points
  pub names_rise : row.names_from ≤ row.names_to
  pub names_inside : row.names_to ≤ names

abbrev pub AreWithin : List Point → List (List ℕ) → List PieceRow → Type 0
AreWithin points names rows = All (IsWithin (length points) (length names)) rows

-- pieces that are made one after the other: how many points and names they have in all, and the names of the pieces
-- that come next
pub record Drafted : Type 0 where
  pub done : List Piece
  pub points : ℕ
  pub named : ℕ
  pub names : List (List ℕ)

abbrev pub drafted : List Point → List (List ℕ) → List PieceRow → ℕ → ℕ → Drafted
drafted points names rows from to = record {
  done = map (piece_of points names) rows;
  points = length points;
  named = length names;
  names = slice_range names from to;
}

-- the rows, and the names of those that come next, lie within the points and names
pub record AreDrafted (points : List Point) (names : List (List ℕ)) (rows : List PieceRow) (from to : ℕ) : Type 0 where
  pub within : AreWithin points names rows
  pub rises : from ≤ to
  pub inside : to ≤ length names
