-- The lines so far are counted.
use Rattle.std.proofs.Common.{◌≡◌, ◌<◌, ◌+◌, ℕ, length, take, min, get_or}
use Rattle.std.specs.Prelude.{sum_by}
use Rattle.road_pieces.specs.Lines.{marks_at}
use Rattle.road_pieces.proofs.crossings.mark_all.Given as goal

abbrev pub invariant-loop-i : goal.invariant-loop-i
invariant-loop-i l = (p : ℕ) → p < length l.initial.marks → min 2 (get_or l.marks p 0) ≡ min 2 (get_or l.initial.marks p 0 + sum_by (λ line. marks_at p line.places) (take l.i l.lines.done))
