-- Whether a turn restriction with via ways has a match, and whether a pattern of it is too long, by numbers and without a
-- list of its patterns.
use Rattle.std.specs.Prelude.{◌≡◌, ◌↔◌, ℕ, ◌≤◌, ℤ, false, List, ◌∷◌}
use Rattle.std.specs.List.{Contains}
use Rattle.osm_model.specs.declared.extract.Extract.{Extract}
use Rattle.road_pieces.specs.DirectedPiece.{DirectedPiece}
use Rattle.road_pieces.specs.Pieces.{IsPiece}
use Rattle.road_pieces.specs.Matches.{via_ways, TurnRule, IsRowPattern}
use Rattle.road_walks.specs.PieceMatches.{PieceGoesOn}
use Rattle.road_walks.specs.Readings.{Joins}
use Rattle.turn_patterns.specs.Found.{HasMatch, HasLongPattern}
use Rattle.turn_patterns.specs.RowWords.{EndsPattern}
use Rattle.pattern_search.specs.Words.{Includes}
use Rattle.pattern_search.specs.Numbers.{comes_number}
use Rattle.pattern_search.specs.ViaSets.{ViaTests, via_members}
use Rattle.pattern_search.specs.ViaWays.{AreTests, IsLine}

-- the restriction as one that forbids its matches
abbrev pub forbidding : TurnRule → TurnRule
forbidding row = record { only = false; u_turn = row.u_turn; from = row.from; via = row.via; to = row.to; modes = row.modes }

-- it has a pattern
abbrev pub HasPattern : Extract → TurnRule → Type 0
HasPattern x row = (pattern : List DirectedPiece) × IsRowPattern x row pattern

-- The law of matches: a restriction has a match exactly where it would have a pattern if it forbade its matches.
abbrev pub MatchesTell : Type 0
MatchesTell = (x : Extract) (row : TurnRule) → HasMatch x row ↔ HasPattern x (forbidding row)

-- tests of via ways that are those of the restriction, the pieces that go on from each piece, and the pieces of from ways
pub record AreRowTests (x : Extract) (row : TurnRule) (way : ℤ) (ways : List ℤ) (none : ℤ) (t : ViaTests DirectedPiece) (line : DirectedPiece → List DirectedPiece) (firsts : List DirectedPiece) : Type 0 where
  pub tests : AreTests (Joins x) PieceGoesOn (EndsPattern x row.only row.to) (λ p. p.way) (way ∷ ways) none (via_members t)
  pub lines : (p : DirectedPiece) → IsLine (Joins x) PieceGoesOn p (line p)
  pub begin : (p : DirectedPiece) → Includes firsts p ↔ (IsPiece x p × Contains row.from p.way)

-- how many pieces can come behind a piece of a from way in a pattern, counted up to 34
abbrev pub number_behind : ViaTests DirectedPiece → (DirectedPiece → List DirectedPiece) → DirectedPiece → ℕ
number_behind t line p = comes_number 34 t line t.count p

-- a piece of a from way has so many behind it, or more
abbrev pub HasBehind : ViaTests DirectedPiece → (DirectedPiece → List DirectedPiece) → List DirectedPiece → ℕ → Type 0
HasBehind t line firsts n = (p : DirectedPiece) × (Includes firsts p × (n ≤ number_behind t line p))

-- The law of numbers: there is a pattern exactly where a piece of a from way has one piece or more behind it, and one that is
-- too long exactly where one has 33 or more.
abbrev pub RowNumbersTell : Type 0
RowNumbersTell =
    (x : Extract) (row : TurnRule) (way : ℤ) (ways : List ℤ) → row.via ≡ via_ways (way ∷ ways) → (none : ℤ) (t : ViaTests DirectedPiece) (line : DirectedPiece → List DirectedPiece) (firsts : List DirectedPiece) → AreRowTests x row way ways none t line firsts → (HasPattern x row ↔ HasBehind t line firsts 1) × (HasLongPattern x row ↔ HasBehind t line firsts 33)
