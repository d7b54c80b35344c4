-- How sequences are kept: their edges stand among those of all sequences.
use Rattle.std.specs.Prelude.{ℕ, List, length, All}
use Rattle.tile_bytes.specs.declared.sequences.Sequence.{Sequence}
use Rattle.tile_bytes.specs.declared.sequences.SequenceRow.{SequenceRow}
use Rattle.tile_bytes.specs.Spans.{part_of, LiesWithin}

abbrev pub sequence_of : List ℕ → SequenceRow → Sequence
sequence_of ids row = record { edges = part_of ids row.span; modes = row.modes }

abbrev pub RowsLieWithin : List ℕ → List SequenceRow → Type 0
RowsLieWithin ids rows = All (λ row. LiesWithin (length ids) row.span) rows
