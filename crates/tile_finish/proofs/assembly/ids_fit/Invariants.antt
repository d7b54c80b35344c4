-- The GraphIds so far are valid.
use Rattle.std.proofs.Common.{ℕ, ◌<◌, get_or}
use Rattle.tile_bytes.specs.Items.{IsValid}
use Rattle.tile_finish.proofs.assembly.ids_fit.Given as goal

abbrev pub invariant-loop-id : goal.invariant-loop-id
invariant-loop-id l = (k : ℕ) (d : ℕ) → k < l.id-index → IsValid (get_or l.ids k d)
