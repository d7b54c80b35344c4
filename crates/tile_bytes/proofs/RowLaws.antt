-- Sequences stay as they are where edges are put behind theirs.
use Rattle.std.proofs.Common.{◌≡◌, ℕ, refl, ◌∙◌, ap, List, [], ◌∷◌, ◌++◌, length, map}
use Rattle.std.specs.Prelude.{slice_range}
use Rattle.std.proofs.lemmas.List.{map-append}
use Rattle.std.proofs.lemmas.List.Elements.{All-head, All-tail}
use Rattle.tile_bytes.specs.declared.sequences.Sequence.{Sequence}
use Rattle.tile_bytes.specs.declared.sequences.SequenceRow.{SequenceRow}
use Rattle.tile_bytes.specs.Spans.{LiesWithin}
use Rattle.tile_bytes.specs.SequenceRows.{sequence_of, RowsLieWithin}
use Rattle.tile_bytes.proofs.SpanLaws.{part_append, part_end}

sequence_with : List ℕ → ℕ → Sequence
sequence_with edges modes = record { edges = edges; modes = modes }

pub rows_append : (ids more : List ℕ) (rows : List SequenceRow) → RowsLieWithin ids rows → map (sequence_of (ids ++ more)) rows ≡ map (sequence_of ids) rows
unfolding sequence_with
rows_append ids more [] within = refl
rows_append ids more (row ∷ rows) within =
    let here : LiesWithin (length ids) row.span = All-head (λ r. LiesWithin (length ids) r.span) row rows within in
    ap (λ p. sequence_with p row.modes ∷ map (sequence_of (ids ++ more)) rows) (part_append ids more row.span.from row.span.to here.rises here.inside)
    ∙ ap (λ l. sequence_of ids row ∷ l) (rows_append ids more rows (All-tail (λ r. LiesWithin (length ids) r.span) row rows within))

pub rows_kept : (old : List Sequence) (ids ids' more : List ℕ) (rows rows' : List SequenceRow) → map (sequence_of ids) rows ≡ old → RowsLieWithin ids rows → ids' ≡ ids ++ more → rows' ≡ rows → map (sequence_of ids') rows' ≡ old
rows_kept old ids ids' more rows rows' e within grew same =
    ap (λ s. map (sequence_of ids') s) same ∙ (ap (λ x. map (sequence_of x) rows) grew ∙ (rows_append ids more rows within ∙ e))

pub row_behind : (old : List Sequence) (ids ids' more : List ℕ) (rows rows' : List SequenceRow) (modes : ℕ) → map (sequence_of ids) rows ≡ old → RowsLieWithin ids rows → ids' ≡ ids ++ more
    → rows' ≡ rows ++ record { span = record { from = length ids; to = length ids' }; modes = modes } ∷ [] → map (sequence_of ids') rows' ≡ old ++ record { edges = more; modes = modes } ∷ []
unfolding sequence_with
row_behind old ids ids' more rows rows' modes e within grew pushed =
    let row : SequenceRow = record { span = record { from = length ids; to = length ids' }; modes = modes } in
    ap (map (sequence_of ids')) pushed ∙ (map-append (sequence_of ids') rows (row ∷ []) ∙
    (ap (λ l. l ++ sequence_of ids' row ∷ []) (rows_kept old ids ids' more rows rows e within grew refl) ∙
    ap (λ p. old ++ sequence_with p modes ∷ []) (ap (λ n. slice_range n (length ids) (length n)) grew ∙ part_end ids more)))
