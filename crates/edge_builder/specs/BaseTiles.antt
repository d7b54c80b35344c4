-- The base tiles of roads: the tiles of level 2 that hold a junction, in order; in each its junctions, in order of
-- OSM id; at each its base edges, numbered from 0.
use Rattle.std.specs.Prelude.{◌≡◌, ℕ, ℤ, false, List, [], ◌∷◌, map, filter, nat_eq, nat_lt, slice_index, if◌then◌else◌}
use Rattle.std.specs.List.{enumerate_from}
use Rattle.road_pieces.specs.declared.rows.Junction.{Junction}
use Rattle.road_pieces.specs.declared.rows.Piece.{Piece}
use Rattle.work_tile.specs.declared.edge_rows.WorkEdge.{WorkEdge}
use Rattle.work_tile.specs.WorkRows.{WorkNode, WorkRows, work_node_with}
use Rattle.road_walks.specs.Orders.{rising, not_none}
use Rattle.edge_builder.specs.BaseRows.{DirectedRow, row_end, base_rows, junction_tile, junction_place, start_places, AreRoads}

-- the row of an edge that ends in that tile, with that local index; which turns are forbidden, names and not-thru aren't told yet
abbrev pub edge_row : ℕ → ℕ → DirectedRow → WorkEdge
edge_row end_tile local e = record {
  key = record { key = e.piece.key; forward = e.forward };
  place = e.place;
  end = row_end e;
  end_tile = end_tile;
  cm = e.piece.cm;
  local = local;
  forward_access = if e.forward then e.piece.forward else e.piece.backward;
  reverse_access = if e.forward then e.piece.backward else e.piece.forward;
  class = e.piece.class;
  mask = 0;
  flagged = false;
  consistency = 0;
  not_thru = false;
}

-- the tile of the junction with that id
abbrev pub tile_at : List Junction → ℤ → ℕ
tile_at junctions id = slice_index (map junction_tile junctions) (junction_place junctions id)

abbrev pub base_edge : List Junction → ℕ × DirectedRow → WorkEdge
base_edge junctions (local, e) = edge_row (tile_at junctions (row_end e)) local e

-- the node of a junction, with all its base edges: the local index is the place among them
abbrev pub base_node : List Junction → List Piece → Junction → WorkNode
base_node junctions pieces j = work_node_with j (map (base_edge junctions) (enumerate_from 0 (base_rows pieces j.osm)))

-- the junctions in a tile, in order of OSM id
abbrev pub junctions_in : List Junction → ℕ → List Junction
junctions_in junctions c = filter (λ j. nat_eq (junction_tile j) c) junctions

abbrev pub base_tile : List Junction → List Piece → ℕ → WorkRows
base_tile junctions pieces c = record { level = 2; tile = c; nodes = map (base_node junctions pieces) (junctions_in junctions c) }

-- that tile, if it holds a junction
abbrev pub tile_if_used : List Junction → List Piece → ℕ → List WorkRows
tile_if_used junctions pieces c = if not_none (junctions_in junctions c) then base_tile junctions pieces c ∷ [] else []

-- the tiles that hold a junction, in order
abbrev pub base_tiles_of : List Junction → List Piece → List WorkRows
base_tiles_of junctions pieces = map (base_tile junctions pieces) (rising nat_lt (map junction_tile junctions))

-- the numbers that the tiles of roads are made from: the tile of each junction, and the place of the junction where
-- each directed edge starts
pub record IsPlanned (junctions : List Junction) (pieces : List Piece) (tiles starts : List ℕ) : Type 0 where
  pub roads : AreRoads junctions pieces
  pub tiles_are : tiles ≡ map junction_tile junctions
  pub starts_are : starts ≡ start_places junctions pieces
