-- Steps: single segments of runs, in one direction.
use Rattle.std.specs.Prelude.{◌≡◌, ◌⊎◌, ℕ, ◌+◌, ◌<◌, ℤ, pos, Bool, true, false, length, if◌then◌else◌}
use Rattle.std.specs.List.{slice_index_or}
use Rattle.osm_model.specs.declared.extract.Extract.{Extract}
use Rattle.road_pieces.specs.declared.steps.Step.{Step}
use Rattle.road_pieces.specs.Runs.{run, is_junction}

-- the node at a place of a run
abbrev pub node : Extract → ℤ → ℕ → ℕ → ℤ
node x way number place = slice_index_or (run x way number) place (pos 0)

-- the segment is one of its run
pub record IsStep (x : Extract) (s : Step) : Type 0 where
  pub inside : s.segment + 1 < length (run x s.way s.run)

-- the nodes where a step starts and ends
abbrev pub step_start : Extract → Step → ℤ
step_start x s = node x s.way s.run (if s.forward then s.segment else s.segment + 1)

abbrev pub step_end : Extract → Step → ℤ
step_end x s = node x s.way s.run (if s.forward then s.segment + 1 else s.segment)

-- the segment after another one in a direction
abbrev pub NextAlong : Bool → ℕ → ℕ → Type 0
NextAlong true k l = l ≡ k + 1
NextAlong false k l = k ≡ l + 1

-- two steps go on in one run and one direction
pub record GoesOn (s t : Step) : Type 0 where
  pub same_way : s.way ≡ t.way
  pub same_run : s.run ≡ t.run
  pub same_direction : s.forward ≡ t.forward
  pub next : NextAlong s.forward s.segment t.segment

-- a step that starts where another one ends is joined to it: they go on, or the node is a junction
abbrev pub Joined : Extract → Step → Step → Type 0
Joined x s t = GoesOn s t ⊎ (is_junction x (step_end x s) ≡ true)
