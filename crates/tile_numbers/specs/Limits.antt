-- Which tiles can be numbered, and the first that has too much for that.
use Rattle.std.specs.Prelude.{ℕ, ◌<◌, ◌≤◌, nat_lt, List, [], ◌∷◌, length, sum_by, All, Option, Some, None, if◌then◌else◌}
use Rattle.std.specs.Option.{option_or}
use Rattle.fixed_geo.specs.Place.{IsPlace}
use Rattle.osm_model.specs.Extract.{IdsRise}
use Rattle.road_pieces.specs.declared.limits.TheConstants.{LONGEST_PIECE_CM}
use Rattle.work_tile.specs.declared.edge_rows.WorkEdge.{WorkEdge}
use Rattle.work_tile.specs.WorkRows.{WorkNode, WorkRows}
use Rattle.work_tile.specs.Places.{place_numbers, NumbersRise}
use Rattle.tile_numbers.specs.declared.room.TheConstants.{MOST_RECORDS}
use Rattle.tile_numbers.specs.declared.room.TileFull.{TileFull}
use Rattle.tile_numbers.specs.declared.room.What.TheVariants as kinds

-- ---- what a GraphId and a record hold

-- the edges of all nodes of a tile
abbrev pub edge_total : WorkRows → ℕ
edge_total rows = sum_by (λ n. length n.edges) rows.nodes

-- GraphIds have numbers for its nodes and edges
pub record HasRoom (rows : WorkRows) : Type 0 where
  pub nodes : length rows.nodes ≤ MOST_RECORDS
  pub edges : edge_total rows ≤ MOST_RECORDS

-- the numbers of an edge fit its record: a tile's number, a length, a local index and a class
pub record IsRecordedEdge (e : WorkEdge) : Type 0 where
  pub end_tile : e.end_tile < 4_194_304
  pub cm : e.cm ≤ LONGEST_PIECE_CM
  pub local : e.local ≤ 127
  pub class : e.class ≤ 7

-- a node is a place on the earth, at which at most 127 edges begin
pub record IsRecordedNode (n : WorkNode) : Type 0 where
  pub place : IsPlace n.at
  pub few : length n.edges ≤ 127
  pub each : All IsRecordedEdge n.edges

-- a tile of level 0, 1 or 2 with room for each node and edge; its nodes rise strictly by OSM id
pub record CanBeNumbered (rows : WorkRows) : Type 0 where
  pub level : rows.level ≤ 2
  pub tile : rows.tile < 4_194_304
  pub room : HasRoom rows
  pub rise : IdsRise (λ (n : WorkNode). n.osm) rows.nodes
  pub each : All IsRecordedNode rows.nodes

-- tiles that rise strictly by level and number, each of which can be numbered
pub record TilesCanBeNumbered (tiles : List WorkRows) : Type 0 where
  pub rise : NumbersRise (place_numbers tiles)
  pub each : All CanBeNumbered tiles

-- ---- tiles that are full

-- what a tile has more of than a GraphId can number, if anything: nodes before edges
abbrev pub fullness : WorkRows → Option TileFull
fullness rows =
    if nat_lt MOST_RECORDS (length rows.nodes) then Some (record { level = rows.level; tile = rows.tile; what = kinds.Nodes; count = length rows.nodes })
    else if nat_lt MOST_RECORDS (edge_total rows) then Some (record { level = rows.level; tile = rows.tile; what = kinds.Edges; count = edge_total rows })
    else None

-- the first of the tiles that has more
abbrev pub first_fullness : List WorkRows → Option TileFull
first_fullness [] = None
first_fullness (t ∷ ts) = option_or (fullness t) (first_fullness ts)
