-- What is found for a turn restriction: its patterns in order, or why it is skipped.
use Rattle.std.specs.Prelude.{◌≡◌, ◌≢◌, ◌⊎◌, ◌↔◌, ◌≤◌, ◌<◌, true, false, List, [], ◌++◌, length, All, Result, Ok, Err, ◌<ℤ◌}
use Rattle.osm_model.specs.declared.extract.Extract.{Extract}
use Rattle.osm_restrictions.specs.declared.rows.SkipReason.{SkipReason}
use Rattle.osm_restrictions.specs.declared.rows.SkipReason.TheVariants as skips
use Rattle.road_pieces.specs.DirectedPiece.{DirectedPiece}
use Rattle.road_pieces.specs.Runs.{run}
use Rattle.road_pieces.specs.Matches.{TurnRule, IsMatch, IsRowPattern, IsUsable, ways_of_via}
use Rattle.road_pieces.specs.declared.steps.Step.{Step}
use Rattle.pattern_search.specs.Words.{Includes, Rising, Before}

-- the order of directed pieces: by way, run and place, forward before backward
abbrev pub ComesBefore : DirectedPiece → DirectedPiece → Type 0
ComesBefore p q =
    (p.way <ℤ q.way) ⊎ ((p.way ≡ q.way) × ((p.run < q.run) ⊎ ((p.run ≡ q.run) × ((p.from < q.from) ⊎ ((p.from ≡ q.from) × (p.to ≡ q.to) × (p.forward ≡ true) × (q.forward ≡ false))))))

-- each way of the restriction has a run
abbrev pub HasRuns : Extract → TurnRule → Type 0
HasRuns x row = All (λ way. run x way 0 ≢ []) (row.from ++ (ways_of_via row.via ++ row.to))

-- it has a match
abbrev pub HasMatch : Extract → TurnRule → Type 0
HasMatch x row = (list : List Step) × IsMatch x row list

-- one of its patterns has more than 33 pieces
abbrev pub HasLongPattern : Extract → TurnRule → Type 0
HasLongPattern x row = (pattern : List DirectedPiece) × (IsRowPattern x row pattern × (33 < length pattern))

-- none has
abbrev pub AreShort : Extract → TurnRule → Type 0
AreShort x row = (pattern : List DirectedPiece) → IsRowPattern x row pattern → length pattern ≤ 33

-- it has no more than 256 patterns
abbrev pub AreFew : Extract → TurnRule → Type 0
AreFew x row = (all : List (List DirectedPiece)) × ((length all ≤ 256) × ((pattern : List DirectedPiece) → IsRowPattern x row pattern → Includes all pattern))

-- exactly its patterns, in order, so each once: by the first piece that differs, and a pattern before each longer one
-- that begins with it
pub record AreAllPatterns (x : Extract) (row : TurnRule) (list : List (List DirectedPiece)) : Type 0 where
  pub rise : Rising (Before ComesBefore) list
  pub tell : (pattern : List DirectedPiece) → Includes list pattern ↔ IsRowPattern x row pattern

-- a restriction is skipped for the first of four reasons
abbrev pub IsSkippedFor : Extract → TurnRule → SkipReason → Type 0
IsSkippedFor x row skips.NoSuchWay = HasRuns x row → ⊥
IsSkippedFor x row skips.NoMatch = HasRuns x row × (HasMatch x row → ⊥)
IsSkippedFor x row skips.TooLong = HasRuns x row × HasMatch x row × HasLongPattern x row
IsSkippedFor x row skips.TooManyMatches = HasRuns x row × HasMatch x row × AreShort x row × (AreFew x row → ⊥)
IsSkippedFor x row _ = ⊥

-- what is found for a restriction
abbrev pub IsFound : Extract → TurnRule → Result (List (List DirectedPiece)) SkipReason → Type 0
IsFound x row (Ok list) = IsUsable x row × AreAllPatterns x row list
IsFound x row (Err reason) = IsSkippedFor x row reason

-- a restriction is usable exactly where patterns are found for it
abbrev pub IsUsableBy : Extract → TurnRule → Result (List (List DirectedPiece)) SkipReason → Type 0
IsUsableBy x row (Ok list) = IsUsable x row
IsUsableBy x row (Err reason) = IsUsable x row → ⊥

-- The law of what is found: it says whether the restriction is usable.
abbrev pub FoundTells : Type 0
FoundTells = (x : Extract) (row : TurnRule) (found : Result (List (List DirectedPiece)) SkipReason) → IsFound x row found → IsUsableBy x row found

-- The law of one answer: no two things are found for one restriction.
abbrev pub OneFound : Type 0
OneFound = (x : Extract) (row : TurnRule) (one other : Result (List (List DirectedPiece)) SkipReason) → IsFound x row one → IsFound x row other → one ≡ other
