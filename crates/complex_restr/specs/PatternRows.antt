-- How patterns are kept: their codes stand among those of all patterns.
use Rattle.std.specs.Prelude.{◌≤◌, ℕ, List, length, All, slice_range}
use Rattle.complex_restr.specs.declared.patterns.PatternRow.{PatternRow}

-- the pattern of a row
abbrev pub pattern_of : List ℕ → PatternRow → List ℕ × ℕ
pattern_of codes row = (slice_range codes row.from row.to, row.modes)

-- the row lies within so many codes
pub record IsInside (count : ℕ) (row : PatternRow) : Type 0 where
  pub rises : row.from ≤ row.to
  pub inside : row.to ≤ count

abbrev pub AreInside : List ℕ → List PatternRow → Type 0
AreInside codes rows = All (IsInside (length codes)) rows
