-- The patterns of a turn restriction with a via node: two pieces that meet there.
use Rattle.std.specs.Prelude.{◌≡◌, ◌↔◌, ℤ, Bool, true, false, List, [], ◌∷◌}
use Rattle.std.specs.List.{Contains}
use Rattle.osm_model.specs.declared.extract.Extract.{Extract}
use Rattle.road_pieces.specs.DirectedPiece.{DirectedPiece}
use Rattle.road_pieces.specs.Pieces.{IsPiece, piece_end}
use Rattle.road_pieces.specs.Matches.{via_node, TurnRule, IsRowPattern}
use Rattle.road_walks.specs.PieceMatches.{PieceTurnsBack}
use Rattle.road_walks.specs.Readings.{Joins}

-- the piece q after p is as the restriction says: of a to way, and by the rule of u-turns
abbrev pub TakesTurn : TurnRule → DirectedPiece → DirectedPiece → Type 0
TakesTurn row p q = Contains row.to q.way × (p.way ≡ q.way → PieceTurnsBack row.u_turn p q)

-- whether a pattern may end with q after p: for an only restriction q isn't as it says, though some other piece is
abbrev pub EndsTurn : Extract → Bool → TurnRule → DirectedPiece → DirectedPiece → Type 0
EndsTurn x true row p q = (TakesTurn row p q → ⊥) × ((other : DirectedPiece) × (Joins x p other × TakesTurn row p other))
EndsTurn x false row p q = TakesTurn row p q

-- two pieces that meet at the via node, the first of a from way
pub record IsNodePattern (x : Extract) (only : Bool) (row : TurnRule) (n : ℤ) (pattern : List DirectedPiece) : Type 0 where
  pub first : DirectedPiece
  pub last : DirectedPiece
  pub is : pattern ≡ first ∷ (last ∷ [])
  pub exists : IsPiece x first
  pub ends : piece_end x first ≡ n
  pub from : Contains row.from first.way
  pub joins : Joins x first last
  pub turns : EndsTurn x only row first last

-- The law of via nodes: the patterns of a restriction with a via node, only ones too, are these pairs of pieces.
abbrev pub SameNodePatterns : Type 0
SameNodePatterns = (x : Extract) (row : TurnRule) (n : ℤ) → row.via ≡ via_node n → (pattern : List DirectedPiece) → IsRowPattern x row pattern ↔ IsNodePattern x row.only row n pattern
