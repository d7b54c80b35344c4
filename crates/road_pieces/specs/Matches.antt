-- What turn restrictions forbid: matches, and the patterns of the lists of steps that are forbidden.
use Rattle.std.specs.Prelude.{◌≡◌, ◌≢◌, ℕ, ◌≤◌, ℤ, Bool, true, false, not, List, [], ◌∷◌, ◌++◌, length, map, All}
use Rattle.std.specs.List.{flat_map, Contains}
use Rattle.osm_model.specs.declared.extract.Extract.{Extract}
use Rattle.osm_restrictions.specs.declared.rows.TurnRow.{TurnRow}
use Rattle.osm_restrictions.specs.declared.rows.Via.{Via}
use Rattle.osm_restrictions.specs.declared.rows.Via.TheVariants as vias
use Rattle.osm_restrictions.specs.Rows.{rows_of_turns}
use Rattle.road_pieces.specs.declared.steps.Step.{Step}
use Rattle.road_pieces.specs.DirectedPiece.{DirectedPiece}
use Rattle.road_pieces.specs.Modes.{ShareMode}
use Rattle.road_pieces.specs.Paths.{Leads}
use Rattle.road_pieces.specs.Following.{AllFollow}
use Rattle.road_pieces.specs.Runs.{run, is_junction}
use Rattle.road_pieces.specs.Steps.{IsStep, Joined, GoesOn, step_start, step_end}
use Rattle.road_pieces.specs.Turns.{Written}

-- where a turn restriction leads through: one node, or ways one after the other
pub data TurnVia : Type 0 where
  via_node : ℤ → TurnVia
  via_ways : List ℤ → TurnVia

-- what a turn restriction says: from these ways, via this, to those ways, one may go on only so, or not so, with these
-- modes; whether it is a restriction on u-turns
pub record TurnRule : Type 0 where
  pub only : Bool
  pub u_turn : Bool
  pub from : List ℤ
  pub via : TurnVia
  pub to : List ℤ
  pub modes : ℕ

-- what a row of turns says, in these words
abbrev pub through : Via → TurnVia
through (vias.Node node) = via_node node
through (vias.Ways ways) = via_ways ways

abbrev pub rule_of : TurnRow → TurnRule
rule_of row = record {
  only = row.only;
  u_turn = row.u_turn;
  from = row.from;
  via = through row.via;
  to = row.to;
  modes = row.modes;
}

-- the turn restrictions of an extract: its rows of turns. No proof but that of `proofs/PlainRoads.antt` looks into this.
unfoldable pub turn_rules : Extract → List TurnRule
turn_rules x = map rule_of (rows_of_turns x)

-- one or more successive segments of one run of a way in one direction
pub record IsStretch (x : Extract) (way : ℤ) (part : List Step) : Type 0 where
  pub first : Step
  pub rest : List Step
  pub is : part ≡ first ∷ rest
  pub same_way : first.way ≡ way
  pub goes_on : AllFollow GoesOn part

-- a stretch for each way, in order
abbrev pub AreStretches : Extract → List ℤ → List (List Step) → Type 0
AreStretches x [] parts = parts ≡ []
AreStretches x (way ∷ ways) [] = ⊥
AreStretches x (way ∷ ways) (part ∷ parts) = IsStretch x way part × AreStretches x ways parts

-- the same segment in the other direction
abbrev pub reversed : Step → Step
reversed s = record { way = s.way; run = s.run; segment = s.segment; forward = not s.forward }

-- the parts between the first and the last step, as via asks: at a node no part; there, where both are of one
-- way, a u-turn takes the reverse of the first step and no other, and another turn every other one
abbrev pub TurnsBack : Bool → Step → Step → Type 0
TurnsBack true first last = last ≡ reversed first
TurnsBack false first last = last ≢ reversed first

abbrev pub AreVia : Extract → Bool → TurnVia → Step → List (List Step) → Step → Type 0
AreVia x u_turn (via_node n) first parts last =
    (parts ≡ []) × (step_end x first ≡ n) × (first.way ≡ last.way → TurnsBack u_turn first last)
AreVia x u_turn (via_ways ways) first parts last = AreStretches x ways parts

-- a step with which a list of steps changes from one member to the next: it ends at a junction
abbrev pub EndsAtJunction : Extract → List Step → Type 0
EndsAtJunction x part = (before : List Step) × ((s : Step) × ((part ≡ before ++ s ∷ []) × (is_junction x (step_end x s) ≡ true)))

-- a match of a row
pub record IsMatch (x : Extract) (row : TurnRule) (list : List Step) : Type 0 where
  pub first : Step
  pub parts : List (List Step)
  pub last : Step
  pub is : list ≡ first ∷ (flat_map (λ part. part) parts ++ last ∷ [])
  pub from : Contains row.from first.way
  pub via : AreVia x row.u_turn row.via first parts last
  pub to : Contains row.to last.way
  pub leads : Leads (IsStep x) (step_start x) (step_end x) (Joined x) (step_start x first) list (step_end x last)
  pub turns : is_junction x (step_end x first) ≡ true
  pub changes : All (EndsAtJunction x) parts

-- for an only row: a match with another joined step as its last one, with which it is no match
pub record IsOther (x : Extract) (row : TurnRule) (list : List Step) : Type 0 where
  pub matched : List Step
  pub match : IsMatch x row matched
  pub other : Step
  pub is : list ≡ match.first ∷ (flat_map (λ part. part) match.parts ++ other ∷ [])
  pub exists : IsStep x other
  pub begins : step_start x other ≡ step_start x match.last
  pub unmatched : IsMatch x row list → ⊥

-- what a row forbids
abbrev pub ForbiddenBy : Extract → Bool → TurnRule → List Step → Type 0
ForbiddenBy x true row list = IsOther x row list
ForbiddenBy x false row list = IsMatch x row list

abbrev pub Forbidden : Extract → TurnRule → List Step → Type 0
Forbidden x row list = ForbiddenBy x row.only row list

-- a row forbids a list of steps whose pattern this is
pub record IsRowPattern (x : Extract) (row : TurnRule) (pattern : List DirectedPiece) : Type 0 where
  pub list : List Step
  pub forbidden : Forbidden x row list
  pub written : Written x list pattern

-- a row that isn't skipped: each of its ways has a run, it has a match, no pattern has more than 33 pieces,
-- and there are no more than 256 patterns
abbrev pub ways_of_via : TurnVia → List ℤ
ways_of_via (via_node n) = []
ways_of_via (via_ways ways) = ways

pub record IsUsable (x : Extract) (row : TurnRule) : Type 0 where
  pub roads : All (λ way. run x way 0 ≢ []) (row.from ++ (ways_of_via row.via ++ row.to))
  pub matched : (list : List Step) × IsMatch x row list
  pub short : (pattern : List DirectedPiece) → IsRowPattern x row pattern → length pattern ≤ 33
  pub few : (all : List (List DirectedPiece)) × ((length all ≤ 256) × ((pattern : List DirectedPiece) → IsRowPattern x row pattern → Contains all pattern))

-- a usable row forbids the list to the mode
abbrev pub Forbids : Extract → ℕ → List Step → Type 0
Forbids x mode list = (row : TurnRule) × (Contains (turn_rules x) row × (IsUsable x row × (ShareMode row.modes mode × Forbidden x row list)))

-- a pattern of a usable row with its modes
pub record IsPattern (x : Extract) (pattern : List DirectedPiece) (modes : ℕ) : Type 0 where
  pub row : TurnRule
  pub there : Contains (turn_rules x) row
  pub usable : IsUsable x row
  pub modes_are : modes ≡ row.modes
  pub turn : List Step
  pub forbidden : Forbidden x row turn
  pub written : Written x turn pattern

abbrev pub IsPatternOf : Extract → ℕ → List DirectedPiece → Type 0
IsPatternOf x mode pattern = (modes : ℕ) × IsPattern x pattern modes × ShareMode modes mode
