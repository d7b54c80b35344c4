-- The rows of the roads of an extract, told by its directed pieces: its pieces, and the nodes and edges of its base tiles.
use Rattle.std.specs.Prelude.{ℕ, ℤ, suc, ◌-◌, ◌||◌, Bool, true, false, not, List, map, filter, take, drop, nat_eq}
use Rattle.std.specs.List.{position_or_len}
use Rattle.osm_model.specs.declared.extract.Extract.{Extract}
use Rattle.tile_geometry.specs.Grid.{grid_tile}
use Rattle.road_pieces.specs.declared.rows.Piece.{Piece}
use Rattle.road_pieces.specs.DirectedPiece.{DirectedPiece}
use Rattle.road_pieces.specs.Lengths.{point, piece_cm}
use Rattle.road_pieces.specs.Pieces.{piece_start, piece_end}
use Rattle.road_pieces.specs.Rows.{stops}
use Rattle.road_pieces.specs.Rules.{class_of, names_of, way_tags, way_access, node_access, node_tags, is_barrier}
use Rattle.road_pieces.specs.Runs.{run, is_junction}
use Rattle.road_walks.specs.BaseEdges.{directed_pieces, is_same, local_index, reverse_of}
use Rattle.road_walks.specs.Stages.{StageTile}
use Rattle.work_tile.specs.declared.edge_rows.WorkEdge.{WorkEdge}
use Rattle.work_tile.specs.WorkRows.{WorkNode, WorkRows}

-- the directed pieces that run forward: one for each piece, in order of key
abbrev pub forward_pieces : Extract → List DirectedPiece
forward_pieces x = filter (λ p. p.forward) (directed_pieces x)

-- a directed piece is this piece, in either direction
abbrev pub is_of_piece : DirectedPiece → DirectedPiece → Bool
is_of_piece p q = is_same q p || is_same q (reverse_of p)

-- the index of its piece among the pieces of the extract
abbrev pub piece_place : Extract → DirectedPiece → ℕ
piece_place x p = position_or_len (is_of_piece p) (forward_pieces x)

-- the number of its piece in the run
abbrev pub piece_number : Extract → DirectedPiece → ℕ
piece_number x p = position_or_len (nat_eq p.from) (stops (is_junction x) 0 (run x p.way p.run))

-- the row of a piece
abbrev pub piece_of_extract : Extract → DirectedPiece → Piece
piece_of_extract x p = record {
  key = record { way = p.way; run = p.run; piece = piece_number x p };
  start = piece_start x p;
  end = piece_end x p;
  shape = map (point x.nodes) (take (suc (p.to - p.from)) (drop p.from (run x p.way p.run)));
  cm = piece_cm x p;
  class = class_of (way_tags x p.way);
  forward = way_access x p.way true;
  backward = way_access x p.way false;
  names = names_of (way_tags x p.way);
}

-- the tile of a level in which a node lies
abbrev pub node_tile : Extract → ℕ → ℤ → ℕ
node_tile x k n = grid_tile k (point x.nodes n)

-- the row of an edge of a level; which turns are forbidden isn't told yet
abbrev pub edge_of_extract : Extract → ℕ → DirectedPiece → WorkEdge
edge_of_extract x k p = record {
  key = record { key = record { way = p.way; run = p.run; piece = piece_number x p }; forward = p.forward };
  place = piece_place x p;
  end = piece_end x p;
  end_tile = node_tile x k (piece_end x p);
  cm = piece_cm x p;
  local = local_index x p;
  forward_access = way_access x p.way p.forward;
  reverse_access = way_access x p.way (not p.forward);
  class = class_of (way_tags x p.way);
  mask = 0;
  flagged = false;
  consistency = 0;
  not_thru = false;
}

-- the row of a node of a level with these edges
abbrev pub node_of_extract : Extract → ℕ → ℤ → List DirectedPiece → WorkNode
node_of_extract x k n edges = record {
  osm = n;
  at = point x.nodes n;
  access = node_access (node_tags x n);
  barrier = is_barrier (node_tags x n);
  density = 0;
  edges = map (edge_of_extract x k) edges;
}

-- the rows of a tile of a stage
abbrev pub rows_of_stage : Extract → StageTile → WorkRows
rows_of_stage x t = record { level = t.level; tile = t.tile; nodes = map (λ n. node_of_extract x t.level n.osm n.edges) t.nodes }
