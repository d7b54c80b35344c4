-- Levels, and chains of base edges that are shortcuts.
use Rattle.std.specs.Prelude.{◌≡◌, ◌≢◌, ◌⊎◌, ℕ, ◌≤◌, ℤ, List, length, sum_by}
use Rattle.osm_model.specs.declared.extract.Extract.{Extract}
use Rattle.tile_geometry.specs.Grid.{class_level}
use Rattle.road_pieces.specs.DirectedPiece.{DirectedPiece}
use Rattle.road_pieces.specs.Paths.{Leads}
use Rattle.road_pieces.specs.Modes.{ShareMode}
use Rattle.road_pieces.specs.Rules.{Passes, class_of, names_of, way_tags, way_access}
use Rattle.road_pieces.specs.Pieces.{piece_start, piece_end}
use Rattle.road_pieces.specs.Lengths.{piece_cm}
use Rattle.road_walks.specs.BaseEdges.{FormatNumbers, reverse_of, local_index, IsKeptPiece, IsMaskBit, IsFlagged}

-- a chain has at most so many edges, and an edge is at most so many centimetres long
abbrev pub most_chain_edges : ℕ
most_chain_edges = 65_535

abbrev pub most_edge_cm : ℕ
most_edge_cm = 268_435_455

-- the class and the level of a piece
abbrev pub piece_class : Extract → DirectedPiece → ℕ
piece_class x p = class_of (way_tags x p.way)

abbrev pub piece_level : Extract → DirectedPiece → ℕ
piece_level x p = class_level (piece_class x p)

-- the modes that may use a piece in its direction
abbrev pub access_of : Extract → DirectedPiece → ℕ
access_of x p = way_access x p.way p.forward

-- a base edge of a level
pub record IsLevelEdge (x : Extract) (asked level : ℕ) (p : DirectedPiece) : Type 0 where
  pub kept : IsKeptPiece x asked p
  pub level_is : piece_level x p ≡ level

-- a junction has a node on a level: a kept piece of that level starts there
pub record HasNode (x : Extract) (asked : ℕ) (n : ℤ) (level : ℕ) : Type 0 where
  pub piece : DirectedPiece
  pub is : IsLevelEdge x asked level piece
  pub starts : piece_start x piece ≡ n

-- a node that a shortcut may pass: exactly two base edges of the level, of two pieces that aren't loops and
-- aren't flagged, alike in class, names and access through the node; the node is open to all modes, and no
-- mask has a bit for the way through it
pub record IsContractible (x : Extract) (asked : ℕ) (numbers : FormatNumbers) (level : ℕ) (n : ℤ) : Type 0 where
  pub first : DirectedPiece
  pub second : DirectedPiece
  pub first_is : IsLevelEdge x asked level first
  pub first_starts : piece_start x first ≡ n
  pub second_is : IsLevelEdge x asked level second
  pub second_starts : piece_start x second ≡ n
  pub only : (p : DirectedPiece) → IsLevelEdge x asked level p → piece_start x p ≡ n → (p ≡ first) ⊎ (p ≡ second)
  pub two : first ≢ second
  pub two_pieces : reverse_of first ≢ second
  pub no_loop : piece_end x first ≢ n
  pub nor_loop : piece_end x second ≢ n
  pub unflagged : IsFlagged x numbers first → ⊥
  pub nor_flagged : IsFlagged x numbers second → ⊥
  pub same_class : piece_class x first ≡ piece_class x second
  pub same_names : names_of (way_tags x first.way) ≡ names_of (way_tags x second.way)
  pub access_on : access_of x (reverse_of first) ≡ access_of x second
  pub access_back : access_of x (reverse_of second) ≡ access_of x first
  pub open_to : (mode : ℕ) → ShareMode numbers.all mode → Passes x mode n
  pub unmasked_on : IsMaskBit x numbers (reverse_of first) (local_index x second) → ⊥
  pub unmasked_back : IsMaskBit x numbers (reverse_of second) (local_index x first) → ⊥

-- a way through a node that may be passed, by another piece
pub record GoesThrough (x : Extract) (asked : ℕ) (numbers : FormatNumbers) (level : ℕ) (p q : DirectedPiece) : Type 0 where
  pub inner : IsContractible x asked numbers level (piece_end x p)
  pub not_same : q ≢ p
  pub not_back : q ≢ reverse_of p

-- a chain of a level
pub record IsEdgeChain (x : Extract) (asked : ℕ) (numbers : FormatNumbers) (level : ℕ) (chain : List DirectedPiece) : Type 0 where
  pub start : ℤ
  pub end : ℤ
  pub leads : Leads (IsLevelEdge x asked level) (piece_start x) (piece_end x) (GoesThrough x asked numbers level) start chain end
  pub level_is : level ≤ 1
  pub no_circle : start ≢ end
  pub begins : IsContractible x asked numbers level start → ⊥
  pub ends : IsContractible x asked numbers level end → ⊥
  pub two : 2 ≤ length chain
  pub few : length chain ≤ most_chain_edges
  pub short : sum_by (piece_cm x) chain ≤ most_edge_cm
