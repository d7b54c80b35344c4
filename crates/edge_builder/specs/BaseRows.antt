-- The directed edges of roads, and where they start.
use Rattle.std.specs.Prelude.{◌<◌, ◌≤◌, ◌<ℤ◌, ℕ, ℤ, Bool, true, false, List, [], ◌∷◌, length, map, flat_map, filter, find, nat_lt, All, AllPairs, Option, option_map, if◌then◌else◌}
use Rattle.std.specs.List.{position_or_len, enumerate_from}
use Rattle.std.specs.Ordering.{int_eq}
use Rattle.fixed_geo.specs.Place.{IsPlace}
use Rattle.tile_geometry.specs.Grid.{grid_tile}
use Rattle.road_pieces.specs.declared.rows.Junction.{Junction}
use Rattle.road_pieces.specs.declared.rows.Piece.{Piece}
use Rattle.edge_builder.specs.declared.faults.BaseFault.{BaseFault}
use Rattle.edge_builder.specs.declared.faults.BaseFault.TheVariants.{TooManyEdges}

-- a piece in one of its directions, with its index among the pieces
pub record DirectedRow : Type 0 where
  pub piece : Piece
  pub place : ℕ
  pub forward : Bool

-- both directions of a piece, forward first; of all pieces, in order
abbrev pub both_rows : ℕ × Piece → List DirectedRow
both_rows (place, p) = record { piece = p; place = place; forward = true } ∷ (record { piece = p; place = place; forward = false } ∷ [])

abbrev pub directed_rows : List Piece → List DirectedRow
directed_rows pieces = flat_map both_rows (enumerate_from 0 pieces)

-- the node where an edge starts, and the one where it ends
abbrev pub row_start : DirectedRow → ℤ
row_start e = if e.forward then e.piece.start else e.piece.end

abbrev pub row_end : DirectedRow → ℤ
row_end e = if e.forward then e.piece.end else e.piece.start

-- the base edges of a junction: the directed edges that start there, in order
abbrev pub base_rows : List Piece → ℤ → List DirectedRow
base_rows pieces n = filter (λ e. int_eq (row_start e) n) (directed_rows pieces)

-- why roads are refused: the first junction with more than 127 base edges
abbrev pub too_many : List Piece → Junction → BaseFault
too_many pieces j = TooManyEdges j.osm (length (base_rows pieces j.osm))

abbrev pub crowded : List Junction → List Piece → Option BaseFault
crowded junctions pieces = option_map (too_many pieces) (find (λ j. nat_lt 127 (length (base_rows pieces j.osm))) junctions)

-- the tile of level 2 in which a junction lies
abbrev pub junction_tile : Junction → ℕ
junction_tile j = grid_tile 2 j.at

-- the place of the junction with that id, and the number of junctions where none has it
abbrev pub junction_place : List Junction → ℤ → ℕ
junction_place junctions id = position_or_len (λ j. int_eq j.osm id) junctions

-- the places of the junctions where the directed edges start
abbrev pub start_places : List Junction → List Piece → List ℕ
start_places junctions pieces = map (λ e. junction_place junctions (row_start e)) (directed_rows pieces)

-- the junctions are in order of id, each id once
abbrev pub JunctionsRise : List Junction → Type 0
JunctionsRise junctions = AllPairs (λ a b. a.osm <ℤ b.osm) junctions

-- a piece starts and ends at junctions
pub record IsJoined (junctions : List Junction) (p : Piece) : Type 0 where
  pub start : junction_place junctions p.start < length junctions
  pub end : junction_place junctions p.end < length junctions

-- a piece is no longer than a tile can tell
abbrev pub IsShort : Piece → Type 0
IsShort p = p.cm ≤ 268_435_455

-- what holds of the junctions and the pieces of the roads of each extract
pub record AreRoads (junctions : List Junction) (pieces : List Piece) : Type 0 where
  pub placed : All (λ j. IsPlace j.at) junctions
  pub rise : JunctionsRise junctions
  pub joined : All (IsJoined junctions) pieces
  pub short : All IsShort pieces
  pub few_junctions : length junctions ≤ 10_000_000
  pub few_pieces : length pieces ≤ 4_000_000
