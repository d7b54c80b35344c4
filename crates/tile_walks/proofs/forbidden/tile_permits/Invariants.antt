-- The sequences so far permit the items.
use Rattle.std.proofs.Common.{ℕ, ◌<◌}
use Rattle.std.specs.Prelude.{slice_index_or}
use Rattle.tile_bytes.specs.declared.sequences.Sequence.{Sequence}
use Rattle.tile_walks.specs.Forbidden.{Permits}
use Rattle.tile_walks.proofs.forbidden.tile_permits.Given as goal

abbrev pub invariant-loop-i : goal.invariant-loop-i
invariant-loop-i l = (k : ℕ) (d : Sequence) → k < l.i → Permits l.mode l.items (slice_index_or l.tile.sequences k d)
