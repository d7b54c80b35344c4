-- What the rules of the tags owe to the walk law: one fact alone, that of `open_nodes`.
use Rattle.std.proofs.Common.{◌≡◌, ℕ, ℤ, List, Bool, true, false, subst, refl}
use Rattle.osm_model.specs.declared.extract.Extract.{Extract}
use Rattle.way_tags.specs.declared.directions.Dir.TheVariants as dirs
use Rattle.way_tags.proofs.OpenNodes.{open_nodes}
use Rattle.road_pieces.specs.declared.steps.Step.{Step}
use Rattle.road_pieces.specs.DirectedPiece.{DirectedPiece}
use Rattle.road_pieces.specs.Modes.{ShareMode}
use Rattle.road_pieces.specs.Rules.{is_barrier, way_tags, node_tags, Uses, Passes, forward_access, backward_access, node_access}
use Rattle.road_pieces.specs.Matches.{Forbids, IsPatternOf}
use Rattle.road_pieces.specs.Runs.{is_junction}
use Rattle.road_pieces.specs.Steps.{step_end}
use Rattle.road_pieces.specs.Turns.{Written}
use Rattle.road_pieces.specs.Walks.{MayStep}
use Rattle.road_pieces.proofs.Barriers.{plain_inside}
use Rattle.road_pieces.proofs.TurnPatterns.{pattern_of_turn}

-- a node without a barrier is closed to no mode that may use some way
open_node : (x : Extract) (mode : ℕ) (way node : ℤ) (forward : Bool) → is_barrier (node_tags x node) ≡ false → Uses x mode way forward → Passes x mode node
unfolding is_barrier forward_access backward_access node_access
open_node x mode way node true plain uses = open_nodes (node_tags x node) (way_tags x way) dirs.Forward mode plain uses
open_node x mode way node false plain uses = open_nodes (node_tags x node) (way_tags x way) dirs.Backward mode plain uses

-- a node inside a piece may be passed
pub inner : (x : Extract) (asked mode : ℕ) (s : Step) → MayStep x asked mode s → is_junction x (step_end x s) ≡ false → Passes x mode (step_end x s)
inner x asked mode s may inside =
    open_node x mode s.way (step_end x s) s.forward (plain_inside x s may.exists inside) may.may.1

-- each forbidden turn has a pattern, and each pattern is that of a forbidden turn
pub pattern_of : (x : Extract) (mode : ℕ) (turn : List Step) → Forbids x mode turn → (pattern : List DirectedPiece) × (IsPatternOf x mode pattern × Written x turn pattern)
pattern_of x mode turn (row, (there, (usable, (has, forbidden)))) =
    let (pattern, written) = pattern_of_turn x row turn forbidden in
    (pattern, ((row.modes, record { row = row; there = there; usable = usable; modes_are = refl; turn = turn; forbidden = forbidden; written = written }, has), written))

pub turn_of : (x : Extract) (mode : ℕ) (pattern : List DirectedPiece) → IsPatternOf x mode pattern → (turn : List Step) × (Forbids x mode turn × Written x turn pattern)
turn_of x mode pattern (modes, is, has) = (is.turn, ((is.row, (is.there, (is.usable, (subst (λ m. ShareMode m mode) is.modes_are has, is.forbidden)))), is.written))
