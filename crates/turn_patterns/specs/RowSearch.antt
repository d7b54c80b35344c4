-- The search for the patterns of a turn restriction with via ways.
use Rattle.std.specs.Prelude.{◌≡◌, ◌↔◌, ℕ, ◌≤◌, ℤ, true, List, [], ◌∷◌, length, map}
use Rattle.std.specs.List.{flat_map, Contains}
use Rattle.osm_model.specs.declared.extract.Extract.{Extract}
use Rattle.road_pieces.specs.DirectedPiece.{DirectedPiece}
use Rattle.road_pieces.specs.Pieces.{IsPiece}
use Rattle.road_pieces.specs.Matches.{via_ways, TurnRule, IsRowPattern}
use Rattle.road_walks.specs.PieceMatches.{PieceGoesOn}
use Rattle.road_walks.specs.Readings.{Joins}
use Rattle.turn_patterns.specs.Found.{ComesBefore}
use Rattle.turn_patterns.specs.RowWords.{EndsPattern}
use Rattle.pattern_search.specs.Words.{Includes, Rising, Before, words_of}
use Rattle.pattern_search.specs.Members.{Members, IsRun, by_sets}
use Rattle.pattern_search.specs.ViaWays.{AreTests}

-- the words of a search over the members of a restriction, from each first piece on
abbrev pub patterns_from : Members DirectedPiece → List DirectedPiece → List (List DirectedPiece)
patterns_from m firsts = flat_map (λ p. map (λ w. p ∷ w) (words_of (by_sets m) 32 (record { letter = p; members = 0 ∷ [] }))) firsts

-- a search whose tests are those of the restriction, from first pieces that are of a from way. It turns back only, and
-- leaves out a first piece only, where nothing completes a pattern.
pub record IsSearchOf (x : Extract) (row : TurnRule) (way : ℤ) (ways : List ℤ) (none : ℤ) (m : Members DirectedPiece) (firsts : List DirectedPiece) : Type 0 where
  pub tests : AreTests (Joins x) PieceGoesOn (EndsPattern x row.only row.to) (λ p. p.way) (way ∷ ways) none m
  pub can : (i : ℕ) (p : DirectedPiece) (w : List DirectedPiece) → IsRun m i p w → m.can i p ≡ true
  pub begin : (p : DirectedPiece) → Includes firsts p → IsPiece x p × Contains row.from p.way
  pub all_begin : (p : DirectedPiece) (w : List DirectedPiece) → IsPiece x p → Contains row.from p.way → IsRun m 0 p w → Includes firsts p

-- The law of the search: it answers exactly the patterns that aren't too long.
abbrev pub SearchAnswers : Type 0
SearchAnswers =
    (x : Extract) (row : TurnRule) (way : ℤ) (ways : List ℤ) → row.via ≡ via_ways (way ∷ ways) → (none : ℤ) (m : Members DirectedPiece) (firsts : List DirectedPiece) → IsSearchOf x row way ways none m firsts → (pattern : List DirectedPiece) → Includes (patterns_from m firsts) pattern ↔ (IsRowPattern x row pattern × (length pattern ≤ 33))

-- The law of its order: where pieces come in order, so do the patterns.
abbrev pub SearchRises : Type 0
SearchRises =
    (m : Members DirectedPiece) (firsts : List DirectedPiece) → Rising ComesBefore firsts → ((p : DirectedPiece) → Rising ComesBefore (m.letters p)) → Rising (Before ComesBefore) (patterns_from m firsts)
