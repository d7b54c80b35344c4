-- Parts of one list.
use Rattle.std.specs.Prelude.{◌≤◌, ℕ, List, length, slice_range, All}
use Rattle.tile_bytes.specs.declared.spans.Span.{Span}

-- the part of a list
abbrev pub part_of : {A : Type 0} → List A → Span → List A
part_of items span = slice_range items span.from span.to

-- a part of a list of this length
pub record LiesWithin (items : ℕ) (span : Span) : Type 0 where
  pub rises : span.from ≤ span.to
  pub inside : span.to ≤ items

abbrev pub LieWithin : {A : Type 0} → List A → List Span → Type 0
LieWithin items spans = All (LiesWithin (length items)) spans
