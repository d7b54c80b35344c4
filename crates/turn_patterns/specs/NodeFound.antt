-- What is found for a turn restriction with a via node, by the pieces that meet there.
use Rattle.std.specs.Prelude.{◌≡◌, ◌↔◌, ℤ, Bool, true, not, List, [], ◌∷◌, map, filter, take, Result, Err, if◌then◌else◌}
use Rattle.std.specs.List.{list_any, flat_map, Contains}
use Rattle.osm_model.specs.declared.extract.Extract.{Extract}
use Rattle.osm_restrictions.specs.declared.rows.SkipReason.{SkipReason}
use Rattle.osm_restrictions.specs.declared.rows.SkipReason.TheVariants as skips
use Rattle.road_pieces.specs.DirectedPiece.{DirectedPiece}
use Rattle.road_pieces.specs.Pieces.{IsPiece, piece_end}
use Rattle.road_pieces.specs.Matches.{via_node, TurnRule}
use Rattle.road_walks.specs.Readings.{Joins}
use Rattle.road_walks.specs.NodePatterns.{TakesTurn}
use Rattle.pattern_search.specs.Words.{Includes, Rising}
use Rattle.turn_patterns.specs.Found.{ComesBefore, HasRuns, IsFound}
use Rattle.turn_patterns.specs.WaysFound.{unless_many}

-- the pieces after each piece, whether one is as the restriction says, and the pieces of from ways that end at the node
pub record AreNodeTests (x : Extract) (row : TurnRule) (n : ℤ) (letters : DirectedPiece → List DirectedPiece) (takes : DirectedPiece → DirectedPiece → Bool) (firsts : List DirectedPiece) : Type 0 where
  pub joins : (p q : DirectedPiece) → Includes (letters p) q ↔ Joins x p q
  pub turns : (p q : DirectedPiece) → Includes (letters p) q → (takes p q ≡ true) ↔ TakesTurn row p q
  pub begin : (p : DirectedPiece) → Includes firsts p ↔ (IsPiece x p × (piece_end x p ≡ n) × Contains row.from p.way)
  pub firsts_rise : Rising ComesBefore firsts
  pub letters_rise : (p : DirectedPiece) → Rising ComesBefore (letters p)

-- some piece after p is as the restriction says
abbrev pub has_turn : (DirectedPiece → List DirectedPiece) → (DirectedPiece → DirectedPiece → Bool) → DirectedPiece → Bool
has_turn letters takes p = list_any (takes p) (letters p)

-- the pieces with which a pattern ends after p: those that are as the restriction says, and for an only one the others
abbrev pub ends_after : Bool → (DirectedPiece → List DirectedPiece) → (DirectedPiece → DirectedPiece → Bool) → DirectedPiece → List DirectedPiece
ends_after only letters takes p =
    if has_turn letters takes p then filter (λ q. if only then not (takes p q) else takes p q) (letters p) else []

-- the pairs of pieces
abbrev pub node_pairs : Bool → (DirectedPiece → List DirectedPiece) → (DirectedPiece → DirectedPiece → Bool) → List DirectedPiece → List (List DirectedPiece)
node_pairs only letters takes firsts = flat_map (λ p. map (λ q. p ∷ (q ∷ [])) (ends_after only letters takes p)) firsts

-- what is found for a restriction whose ways have runs; it stops at the 257th pattern
abbrev pub node_found : Bool → (DirectedPiece → List DirectedPiece) → (DirectedPiece → DirectedPiece → Bool) → List DirectedPiece → Result (List (List DirectedPiece)) SkipReason
node_found only letters takes firsts =
    if not (list_any (has_turn letters takes) firsts) then Err skips.NoMatch else unless_many (take 257 (node_pairs only letters takes firsts))

-- The law of via nodes: this is what is found.
abbrev pub NodeFound : Type 0
NodeFound =
    (x : Extract) (row : TurnRule) (n : ℤ) → row.via ≡ via_node n → HasRuns x row → (letters : DirectedPiece → List DirectedPiece) (takes : DirectedPiece → DirectedPiece → Bool) (firsts : List DirectedPiece) → AreNodeTests x row n letters takes firsts → IsFound x row (node_found row.only letters takes firsts)
