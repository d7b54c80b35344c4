-- Pieces: parts of runs between two successive places with junctions, in one direction.
use Rattle.std.specs.Prelude.{◌≡◌, ℕ, zero, suc, ◌+◌, ◌-◌, ◌<◌, ℤ, true, false, List, [], ◌∷◌, length, if◌then◌else◌}
use Rattle.osm_model.specs.declared.extract.Extract.{Extract}
use Rattle.road_pieces.specs.declared.steps.Step.{Step}
use Rattle.road_pieces.specs.DirectedPiece.{DirectedPiece}
use Rattle.road_pieces.specs.Rules.{Keeps}
use Rattle.road_pieces.specs.Runs.{run, is_junction}
use Rattle.road_pieces.specs.Steps.{node}

-- at both ends there is a junction, and at no place between
pub record IsPiece (x : Extract) (p : DirectedPiece) : Type 0 where
  pub rises : p.from < p.to
  pub inside : p.to < length (run x p.way p.run)
  pub begins : is_junction x (node x p.way p.run p.from) ≡ true
  pub ends : is_junction x (node x p.way p.run p.to) ≡ true
  pub plain : (k : ℕ) → p.from < k → k < p.to → is_junction x (node x p.way p.run k) ≡ false

-- the nodes where a directed piece starts and ends
abbrev pub piece_start : Extract → DirectedPiece → ℤ
piece_start x p = node x p.way p.run (if p.forward then p.from else p.to)

abbrev pub piece_end : Extract → DirectedPiece → ℤ
piece_end x p = node x p.way p.run (if p.forward then p.to else p.from)

-- the steps over so many segments of a run, from a place on forward, and back to a place
abbrev pub up : ℤ → ℕ → ℕ → ℕ → List Step
up way number from zero = []
up way number from (suc count) = record { way = way; run = number; segment = from; forward = true } ∷ up way number (from + 1) count

abbrev pub down : ℤ → ℕ → ℕ → ℕ → List Step
down way number to zero = []
down way number to (suc count) = record { way = way; run = number; segment = to + count; forward = false } ∷ down way number to count

-- the steps of a directed piece, in the order in which they are walked
abbrev pub steps : DirectedPiece → List Step
steps p = if p.forward then up p.way p.run p.from (p.to - p.from) else down p.way p.run p.from (p.to - p.from)

-- a junction at which a piece starts that is kept for the asked modes
abbrev pub IsKeptJunction : Extract → ℕ → ℤ → Type 0
IsKeptJunction x asked n = (p : DirectedPiece) × (IsPiece x p) × (Keeps x asked p.way) × (piece_start x p ≡ n)
