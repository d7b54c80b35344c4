-- How many pieces there are, counted before they are made.
use Rattle.std.specs.Prelude.{ℕ, Bool, false, List, length, drop, sum_by}
use Rattle.std.specs.List.{slice_index_or}
use Rattle.road_pieces.specs.Rows.{stops}
use Rattle.road_pieces.specs.Lines.{Line}

-- the pieces of a line that begins at a junction: one for each later junction
abbrev pub pieces_in : List Bool → List ℕ → ℕ
pieces_in flags places = length (stops (λ p. slice_index_or flags p false) 1 (drop 1 places))

abbrev pub pieces_of_lines : List Bool → List Line → ℕ
pieces_of_lines flags lines = sum_by (λ line. pieces_in flags line.places) lines

-- the places of all lines together
abbrev pub places_of_lines : List Line → ℕ
places_of_lines lines = sum_by (λ line. length line.places) lines
