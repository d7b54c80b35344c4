-- The places so far are counted.
use Rattle.std.proofs.Common.{◌≡◌, ◌<◌, ◌+◌, ◌==◌, ℕ, length, take, min, get_or}
use Rattle.std.specs.Prelude.{count_by}
use Rattle.road_pieces.proofs.crossings.mark_line.Given as goal

abbrev pub invariant-loop-place : goal.invariant-loop-place
invariant-loop-place l = (p : ℕ) → p < length l.initial.marks → min 2 (get_or l.marks p 0) ≡ min 2 (get_or l.initial.marks p 0 + count_by (λ q. q == p) (take l.place-index l.places))
