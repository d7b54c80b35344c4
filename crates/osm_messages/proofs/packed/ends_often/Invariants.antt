use Rattle.std.proofs.Common.{ℕ, ◌*◌, ◌<◌}
use Rattle.osm_messages.specs.Endings.{least_at}
use Rattle.osm_messages.proofs.packed.ends_often.Given as goal

abbrev pub invariant-loop-group : goal.invariant-loop-group
invariant-loop-group l = (k : ℕ) → k < l.group → least_at l.bytes (5 * k) < 128
