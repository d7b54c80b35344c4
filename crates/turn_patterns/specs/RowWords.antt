-- The patterns of a turn restriction with via ways, read piece by piece, as a search goes over them.
use Rattle.std.specs.Prelude.{◌≡◌, ◌↔◌, ℤ, Bool, true, false, List, ◌∷◌}
use Rattle.std.specs.List.{Contains}
use Rattle.osm_model.specs.declared.extract.Extract.{Extract}
use Rattle.road_pieces.specs.DirectedPiece.{DirectedPiece}
use Rattle.road_pieces.specs.Pieces.{IsPiece}
use Rattle.road_pieces.specs.Matches.{via_ways, TurnRule, IsRowPattern}
use Rattle.road_walks.specs.PieceMatches.{PieceGoesOn}
use Rattle.road_walks.specs.Readings.{Joins}
use Rattle.pattern_search.specs.ViaWays.{IsRest}

-- whether a pattern may end with q after p, where the pieces up to p are a match without its last one: for an only
-- restriction q isn't of a to way, though some other piece is
abbrev pub EndsPattern : Extract → Bool → List ℤ → DirectedPiece → DirectedPiece → Type 0
EndsPattern x true tos p q = (Contains tos q.way → ⊥) × ((other : DirectedPiece) × (Joins x p other × Contains tos other.way))
EndsPattern x false tos p q = Contains tos q.way

-- a piece of a from way, a piece of the first via way, and the rest of the via ways
pub record IsRowWord (x : Extract) (only : Bool) (row : TurnRule) (way : ℤ) (ways : List ℤ) (pattern : List DirectedPiece) : Type 0 where
  pub first : DirectedPiece
  pub second : DirectedPiece
  pub rest : List DirectedPiece
  pub is : pattern ≡ first ∷ (second ∷ rest)
  pub exists : IsPiece x first
  pub from : Contains row.from first.way
  pub joins : Joins x first second
  pub same_way : second.way ≡ way
  pub completes : IsRest (Joins x) PieceGoesOn (EndsPattern x only row.to) (λ p. p.way) ways second rest

-- The law of words: the patterns of a restriction with via ways, only ones too, are its words.
abbrev pub SameWords : Type 0
SameWords = (x : Extract) (row : TurnRule) (way : ℤ) (ways : List ℤ) → row.via ≡ via_ways (way ∷ ways) → (pattern : List DirectedPiece) → IsRowPattern x row pattern ↔ IsRowWord x row.only row way ways pattern
