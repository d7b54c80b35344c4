-- Turns, written in steps and in directed pieces.
use Rattle.std.specs.Prelude.{◌≡◌, ◌↔◌, List, [], ◌∷◌, ◌++◌, All}
use Rattle.std.specs.List.{flat_map}
use Rattle.osm_model.specs.declared.extract.Extract.{Extract}
use Rattle.road_pieces.specs.declared.steps.Step.{Step}
use Rattle.road_pieces.specs.DirectedPiece.{DirectedPiece}
use Rattle.road_pieces.specs.Paths.{Stands}
use Rattle.road_pieces.specs.Pieces.{IsPiece, steps}

-- the list begins, or ends, with that element
abbrev pub BeginsWith : {E : Type 0} → E → List E → Type 0
BeginsWith {E} e es = (rest : List E) × (es ≡ e ∷ rest)

abbrev pub EndsWith : {E : Type 0} → E → List E → Type 0
EndsWith {E} e es = (rest : List E) × (es ≡ rest ++ e ∷ [])

-- a turn and its pattern: the pattern is the piece that ends with the turn's first step, the pieces between,
-- and the piece that begins with its last step
pub record Written (x : Extract) (turn : List Step) (pattern : List DirectedPiece) : Type 0 where
  pub first : Step
  pub last : Step
  pub from : DirectedPiece
  pub between : List DirectedPiece
  pub to : DirectedPiece
  pub turn_is : turn ≡ first ∷ (flat_map steps between ++ last ∷ [])
  pub pattern_is : pattern ≡ from ∷ (between ++ to ∷ [])
  pub from_exists : IsPiece x from
  pub between_exist : All (IsPiece x) between
  pub to_exists : IsPiece x to
  pub ends_with_first : EndsWith first (steps from)
  pub begins_with_last : BeginsWith last (steps to)

-- The law of turns: a turn stands in the steps of a list of pieces exactly where its pattern stands among the pieces.
abbrev pub SameTurns : Type 0
SameTurns = (x : Extract) (turn : List Step) (pattern pieces : List DirectedPiece) → Written x turn pattern → All (IsPiece x) pieces → Stands turn (flat_map steps pieces) ↔ Stands pattern pieces
