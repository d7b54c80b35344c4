-- How lines are kept: the places of all lines in one list, and for each line where it begins and ends there.
use Rattle.std.specs.Prelude.{◌≤◌, ℕ, List, length, map, drop, slice_range, All}
use Rattle.road_pieces.specs.declared.lines.Head.{Head}
use Rattle.road_pieces.specs.Lines.{Line, Draft}

-- the line of a head
abbrev pub line_of : List ℕ → Head → Line
line_of places head = record { way = head.way; number = head.number; places = slice_range places head.from head.to }

-- the line ends by that place
pub record EndsBy (limit : ℕ) (head : Head) : Type 0 where
  pub rises : head.from ≤ head.to
  pub inside : head.to ≤ limit

-- all lines end before the begun run, which lies within the places
pub record AreKept (places : List ℕ) (heads : List Head) (begun : ℕ) : Type 0 where
  pub ended : All (EndsBy begun) heads
  pub inside : begun ≤ length places

abbrev pub draft_of : List ℕ → List Head → ℕ → Draft
draft_of places heads begun = record { done = map (line_of places) heads; begun = drop begun places }
