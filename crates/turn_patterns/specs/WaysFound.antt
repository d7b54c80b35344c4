-- What is found for a turn restriction with via ways, by its numbers and its search.
use Rattle.std.specs.Prelude.{◌≡◌, ℕ, ℤ, Bool, true, not, List, ◌∷◌, length, take, Result, Ok, Err, nat_lt, if◌then◌else◌}
use Rattle.std.specs.List.{list_any}
use Rattle.osm_model.specs.declared.extract.Extract.{Extract}
use Rattle.osm_restrictions.specs.declared.rows.SkipReason.{SkipReason}
use Rattle.osm_restrictions.specs.declared.rows.SkipReason.TheVariants as skips
use Rattle.road_pieces.specs.DirectedPiece.{DirectedPiece}
use Rattle.road_pieces.specs.Matches.{via_ways, TurnRule}
use Rattle.pattern_search.specs.Words.{Rising}
use Rattle.pattern_search.specs.Members.{IsRun}
use Rattle.pattern_search.specs.ViaSets.{ViaTests, via_members}
use Rattle.turn_patterns.specs.Counted.{forbidding, AreRowTests, number_behind}
use Rattle.turn_patterns.specs.Found.{ComesBefore, HasRuns, IsFound}
use Rattle.turn_patterns.specs.RowSearch.{patterns_from}

-- tests that are those of the restriction, where all pieces come in order, and none is passed over that completes a pattern
pub record AreSearchTests (x : Extract) (row : TurnRule) (way : ℤ) (ways : List ℤ) (none : ℤ) (t : ViaTests DirectedPiece) (line : DirectedPiece → List DirectedPiece) (firsts : List DirectedPiece) : Type 0 where
  pub tests : AreRowTests x row way ways none t line firsts
  pub can : (i : ℕ) (p : DirectedPiece) (w : List DirectedPiece) → IsRun (via_members t) i p w → t.can i p ≡ true
  pub firsts_rise : Rising ComesBefore firsts
  pub letters_rise : (p : DirectedPiece) → Rising ComesBefore (t.letters p)

-- a piece of a from way has more than so many pieces behind it
abbrev pub has_more : ℕ → ViaTests DirectedPiece → (DirectedPiece → List DirectedPiece) → List DirectedPiece → Bool
has_more n t line firsts = list_any (λ p. nat_lt n (number_behind t line p)) firsts

-- the patterns, unless they are too many
abbrev pub unless_many : List (List DirectedPiece) → Result (List (List DirectedPiece)) SkipReason
unless_many list = if nat_lt 256 (length list) then Err skips.TooManyMatches else Ok list

-- what is found for a restriction whose ways have runs: `matching` are the tests of its matches, `t` those of its patterns.
-- The search stops at the 257th pattern.
abbrev pub ways_found : ViaTests DirectedPiece → ViaTests DirectedPiece → (DirectedPiece → List DirectedPiece) → List DirectedPiece → Result (List (List DirectedPiece)) SkipReason
ways_found matching t line firsts =
    if not (has_more 0 matching line firsts) then Err skips.NoMatch
    else if has_more 32 t line firsts then Err skips.TooLong
    else unless_many (take 257 (patterns_from (via_members t) firsts))

-- The law of via ways: this is what is found.
abbrev pub WaysFound : Type 0
WaysFound =
    (x : Extract) (row : TurnRule) (way : ℤ) (ways : List ℤ) → row.via ≡ via_ways (way ∷ ways) → HasRuns x row → (none : ℤ) (matching t : ViaTests DirectedPiece) (line : DirectedPiece → List DirectedPiece) (firsts : List DirectedPiece) → AreRowTests x (forbidding row) way ways none matching line firsts → AreSearchTests x row way ways none t line firsts → IsFound x row (ways_found matching t line firsts)
